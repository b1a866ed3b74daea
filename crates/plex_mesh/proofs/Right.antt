-- What a mesh that is being built keeps as parts are added, and what it has at the end.
use Rattle.std.proofs.Common.{◌≡◌, ℕ, ◌+◌, ◌<◌, ◌≤◌, ◌^◌, Bool, true, false, not, ◌&&◌, ◌||◌, ℤ, List, [], ◌∷◌, ◌++◌, length, map, refl, sym, ap, ◌∙◌, ⊎_elim, arith, length-append}
use Rattle.std.specs.List.{list_any, AllByRecursion}
use Rattle.std.proofs.lemmas.Bool.{and_parts, or_left, or_parts}
use Rattle.std.proofs.lemmas.List.{map-append}
use Rattle.std.proofs.lemmas.List.Folds.{list_any-append}
use Rattle.plain_lists.specs.Lists.{same_set, sorted, differ_as_sets}
use Rattle.plain_lists.proofs.Each.{all_weaker, all_both, all_append}
use Rattle.plain_lists.proofs.Finding.{any_enumerated, same_tests}
use Rattle.plain_lists.proofs.Sorted.{same_list-turn}
use Rattle.mesh_defs.specs.declared.Place.{Place}
use Rattle.mesh_defs.specs.declared.Place.TheVariants.{Node, Element}
use Rattle.mesh_defs.specs.Mesh.{Mesh, Cell, Mark, Row, Section}
use Rattle.mesh_defs.specs.Points.{contains, marked_point}
use Rattle.mesh_defs.specs.RightMesh.{IsSoundCell, IsOnPoint, IsRightRow, IsRightSection, count_on}
use Rattle.plex_mesh.specs.Right.{IsNewSet, IsComponents, AreKnownRows, IsRightSoFar}
use Rattle.plex_base.specs.DataFields.{FieldRows, section_on}

-- ---- lists of sets

-- equal sets are equal the other way round
pub same_set-turn : (xs ys : List ℕ) → same_set xs ys ≡ same_set ys xs
same_set-turn xs ys = same_tests (same_set xs ys) (same_set ys xs) (same_list-turn (sorted xs) (sorted ys)) (same_list-turn (sorted ys) (sorted xs))

-- sets that differ, and one more that is none of them
differ-push : (xss : List (List ℕ)) (ys : List ℕ) → differ_as_sets xss ≡ true → list_any (same_set ys) xss ≡ false → differ_as_sets (xss ++ ys ∷ []) ≡ true
differ-push [] ys h fresh = refl
differ-push (xs ∷ xss) ys h fresh =
    let apart = and_parts (not (list_any (same_set xs) xss)) (differ_as_sets xss) h in
    let new = or_parts (same_set ys xs) (list_any (same_set ys) xss) fresh in
    go (list_any (same_set xs) xss) (same_set xs ys) apart.0 (same_set-turn xs ys ∙ new.0) (list_any-append (same_set xs) xss (ys ∷ [])) (differ-push xss ys apart.1 new.1)
  where
    go : (a b : Bool) → not a ≡ true → b ≡ false → list_any (same_set xs) (xss ++ ys ∷ []) ≡ (a || (b || false)) → differ_as_sets (xss ++ ys ∷ []) ≡ true → (not (list_any (same_set xs) (xss ++ ys ∷ [])) && differ_as_sets (xss ++ ys ∷ [])) ≡ true
    go true b h k e r = absurd (cc)
    go false true h k e r = absurd (cc)
    go false false h k e r = rw (e, r)

-- ---- more vertices, or more cells

-- the rows of a section stay right where there is more to have data
section-grows : (m n : Mesh) → ((on : Place) → count_on m on ≤ count_on n on) → (f : Section) → IsRightSection m f → IsRightSection n f
section-grows m n more f h = record {
  some_component = h.some_component;
  rows = all_weaker (IsRightRow m f) (IsRightRow n f) (λ row r. let up = more f.on in record { number = omega (arith, up, r.number); values = r.values }) f.rows h.rows;
}

-- a cell stays sound where there are more vertices
cell-grows : (m n : Mesh) → m.dim ≡ n.dim → length m.at ≤ length n.at → (cell : Cell) → IsSoundCell m cell → IsSoundCell n cell
cell-grows m n dim more cell h = record {
  dim = h.dim ∙ dim;
  corners = h.corners;
  in_range = all_weaker (λ v. v < length m.at) (λ v. v < length n.at) (λ v low. omega arith) cell.vertices h.in_range;
  different = h.different;
}

-- a mark stays on its point where there are more cells
mark-grows : (m : Mesh) (cells : List Cell) (mark : Mark) → IsOnPoint m mark → IsOnPoint (record m { cells = m.cells ++ cells }) mark
mark-grows m cells mark h =
    let p = marked_point mark in
    any_enumerated (λ cell. contains cell p) 0 (m.cells ++ cells) ∙ list_any-append (λ cell. contains cell p) m.cells cells
    ∙ or_left (list_any (λ cell. contains cell p) m.cells) (list_any (λ cell. contains cell p) cells) (sym (any_enumerated (λ cell. contains cell p) 0 m.cells) ∙ h)

-- ---- one part more

pub right-vertex : (m : Mesh) (at : List ℤ) → IsRightSoFar m → length at ≡ 3 → length m.at + 1 < 2 ^ 32 → IsRightSoFar (record m { at = m.at ++ at ∷ [] })
right-vertex m at h three few =
    let after : Mesh = record m { at = m.at ++ at ∷ [] } in
    let grown = length-append m.at (at ∷ []) in
    let more : (on : Place) → count_on m on ≤ count_on after on = λ on. elim on as (λ p. count_on m p ≤ count_on after p) [ Node ↦ omega arith | Element ↦ omega arith ] in
    record {
      dim = h.dim;
      cells = all_weaker (IsSoundCell m) (IsSoundCell after) (cell-grows m after refl (omega arith)) m.cells h.cells;
      few_cells = h.few_cells;
      differ = h.differ;
      few_vertices = omega arith;
      three_coordinates = all_append (λ (a : List ℤ). length a ≡ 3) m.at (at ∷ []) h.three_coordinates (three, tt);
      fields = all_weaker (IsRightSection m) (IsRightSection after) (section-grows m after more) m.fields h.fields;
      marks = h.marks;
    }

pub right-cell : (m : Mesh) (cell : Cell) → IsRightSoFar m → length m.cells < 250000 → IsSoundCell m cell → IsNewSet m cell.vertices → IsRightSoFar (record m { cells = m.cells ++ cell ∷ [] })
right-cell m cell h few sound fresh =
    let after : Mesh = record m { cells = m.cells ++ cell ∷ [] } in
    let grown = length-append m.cells (cell ∷ []) in
    let more : (on : Place) → count_on m on ≤ count_on after on = λ on. elim on as (λ p. count_on m p ≤ count_on after p) [ Node ↦ omega arith | Element ↦ omega arith ] in
    let same = cell-grows m after refl (omega arith) in
    record {
      dim = h.dim;
      cells = all_append (IsSoundCell after) m.cells (cell ∷ []) (all_weaker (IsSoundCell m) (IsSoundCell after) same m.cells h.cells) (same cell sound, tt);
      few_cells = omega arith;
      differ = ap differ_as_sets (map-append (λ (c : Cell). c.vertices) m.cells (cell ∷ [])) ∙ differ-push (map (λ (c : Cell). c.vertices) m.cells) cell.vertices h.differ fresh;
      few_vertices = h.few_vertices;
      three_coordinates = h.three_coordinates;
      fields = all_weaker (IsRightSection m) (IsRightSection after) (section-grows m after more) m.fields h.fields;
      marks = all_weaker (IsOnPoint m) (IsOnPoint after) (mark-grows m (cell ∷ [])) m.marks h.marks;
    }

-- a data section of 1, 3 or 9 components with known rows, each as long as it says
pub right-section : (m : Mesh) (on : Place) (f : FieldRows) → IsComponents f.comps → AreKnownRows m on f.rows → AllByRecursion (λ (row : Row). length row.values ≡ f.comps) f.rows → IsRightSection m (section_on on f)
right-section m on f some known full = record {
  some_component = ⊎_elim (λ one. omega (arith, one)) (λ more. ⊎_elim (λ three. omega (arith, three)) (λ nine. omega (arith, nine)) more) some;
  rows = all_both (λ (row : Row). row.number < count_on m on) (λ (row : Row). length row.values ≡ f.comps) (IsRightRow m (section_on on f)) (λ row number values. record { number = number; values = values }) f.rows known full;
}

pub right-field : (m : Mesh) (f : Section) → IsRightSoFar m → IsRightSection m f → IsRightSoFar (record m { fields = m.fields ++ f ∷ [] })
right-field m f h right =
    let after : Mesh = record m { fields = m.fields ++ f ∷ [] } in
    record {
      dim = h.dim;
      cells = all_weaker (IsSoundCell m) (IsSoundCell after) (cell-grows m after refl (omega arith)) m.cells h.cells;
      few_cells = h.few_cells;
      differ = h.differ;
      few_vertices = h.few_vertices;
      three_coordinates = h.three_coordinates;
      fields = all_append (IsRightSection after) m.fields (f ∷ []) (all_weaker (IsRightSection m) (IsRightSection after) (section-grows m after (λ on. elim on as (λ p. count_on m p ≤ count_on after p) [ Node ↦ omega arith | Element ↦ omega arith ])) m.fields h.fields) (section-grows m after (λ on. elim on as (λ p. count_on m p ≤ count_on after p) [ Node ↦ omega arith | Element ↦ omega arith ]) f right, tt);
      marks = h.marks;
    }
