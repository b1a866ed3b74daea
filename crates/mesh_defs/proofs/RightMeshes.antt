-- A test of right meshes that computes, and what it says.
use Rattle.std.proofs.Common.{◌≡◌, ◌<◌, ℕ, Bool, true, not, ◌&&◌, ◌||◌, ◌==◌, nat_lt, nat_le, List, length, map, get_or, ℤ, inl, inr, ⊎_elim}
use Rattle.std.specs.List.{list_any, list_all, AllByRecursion}
use Rattle.std.proofs.lemmas.Bool.{and_parts, eqb-true, eq-eqb, ltb-true, leb-true, not-true, or_cases, both_ways}
use Rattle.plain_lists.specs.Lists.{below, differ_as_sets}
use Rattle.plain_lists.proofs.Each.{all_weaker, each_passes}
use Rattle.plain_lists.proofs.Below.{passes-below}
use Rattle.mesh_defs.specs.Tables.{dim_of, corner_count}
use Rattle.mesh_defs.specs.Mesh.{Mesh, Cell, Mark, Row, Section, placed_cells}
use Rattle.mesh_defs.specs.Points.{marked_point}
use Rattle.mesh_defs.specs.RightMesh.{in_some, IsSoundCell, IsSoundMesh, IsOnPoint, count_on, IsRightRow, IsRightSection, IsRightMesh}

-- ---- the test

-- different numbers below n
abbrev pub are_corners : ℕ → List ℕ → Bool
are_corners n vs = list_all (λ c. nat_lt c n) vs && list_all (λ j. list_all (λ i. not (get_or vs i 0 == get_or vs j 0)) (below j)) (below (length vs))

abbrev pub is_sound_cell : Mesh → Cell → Bool
is_sound_cell m cell = (dim_of cell.poly == m.dim) && ((length cell.vertices == corner_count cell.poly) && are_corners (length m.at) cell.vertices)

abbrev pub is_sound : Mesh → Bool
is_sound m = ((m.dim == 2) || (m.dim == 3)) && (list_all (is_sound_cell m) m.cells && list_all (λ v. list_any (λ (cell : Cell). list_any (λ w. w == v) cell.vertices) m.cells) (below (length m.at)))

abbrev pub is_right_row : Mesh → Section → Row → Bool
is_right_row m f row = nat_lt row.number (count_on m f.on) && (length row.values == f.comps)

abbrev pub is_right_section : Mesh → Section → Bool
is_right_section m f = nat_le 1 f.comps && list_all (is_right_row m f) f.rows

abbrev pub is_on_point : Mesh → Mark → Bool
is_on_point m mark = in_some (marked_point mark) (placed_cells m)

abbrev pub is_right : Mesh → Bool
is_right m = is_sound m && (nat_le 1 (length m.cells) && (nat_le (length m.cells) 250000 && (differ_as_sets (map (λ (cell : Cell). cell.vertices) m.cells)
    && (list_all (λ (at : List ℤ). length at == 3) m.at && (list_all (is_right_section m) m.fields && list_all (is_on_point m) m.marks)))))

-- ---- what it says

-- each entry of a list that passes a test has what the test says
each-told : {X : Type 0} (p : X → Bool) (P : X → Type 0) → ((x : X) → p x ≡ true → P x) → (xs : List X) → list_all p xs ≡ true → AllByRecursion P xs
each-told p P told xs h = all_weaker (λ x. p x ≡ true) P told xs (each_passes p xs h)

-- a cell that passes is sound
pub sound-cell : (m : Mesh) (cell : Cell) → is_sound_cell m cell ≡ true → IsSoundCell m cell
sound-cell m cell h =
    let dim = and_parts (dim_of cell.poly == m.dim) _ h in
    let count = and_parts (length cell.vertices == corner_count cell.poly) (are_corners (length m.at) cell.vertices) dim.1 in
    let corners = and_parts (list_all (λ c. nat_lt c (length m.at)) cell.vertices) (list_all (λ j. list_all (λ i. not (get_or cell.vertices i 0 == get_or cell.vertices j 0)) (below j)) (below (length cell.vertices))) count.1 in
    record {
      dim = eqb-true (dim_of cell.poly) m.dim dim.0;
      corners = eqb-true (length cell.vertices) (corner_count cell.poly) count.0;
      in_range = each-told (λ v. nat_lt v (length m.at)) (λ v. v < length m.at) (λ v e. ltb-true v (length m.at) e) cell.vertices corners.0;
      different = λ i j low high same. both_ways _ (not-true _ (passes-below (λ k. not (get_or cell.vertices k 0 == get_or cell.vertices j 0)) j i (passes-below (λ l. list_all (λ k. not (get_or cell.vertices k 0 == get_or cell.vertices l 0)) (below l)) (length cell.vertices) j corners.1 high) low)) (eq-eqb _ _ same);
    }

-- a mesh that passes is sound
pub sound-mesh : (m : Mesh) → is_sound m ≡ true → IsSoundMesh m
sound-mesh m h =
    let dim = and_parts ((m.dim == 2) || (m.dim == 3)) _ h in
    let rest = and_parts (list_all (is_sound_cell m) m.cells) (list_all (λ v. list_any (λ (cell : Cell). list_any (λ w. w == v) cell.vertices) m.cells) (below (length m.at))) dim.1 in
    record {
      dim = ⊎_elim (λ e. inl (eqb-true m.dim 2 e)) (λ e. inr (eqb-true m.dim 3 e)) (or_cases (m.dim == 2) (m.dim == 3) dim.0);
      cells = each-told (is_sound_cell m) (IsSoundCell m) (sound-cell m) m.cells rest.0;
      used = λ v low. passes-below (λ v. list_any (λ (cell : Cell). list_any (λ w. w == v) cell.vertices) m.cells) (length m.at) v rest.1 low;
    }

right-row : (m : Mesh) (f : Section) (row : Row) → is_right_row m f row ≡ true → IsRightRow m f row
right-row m f row h = let both = and_parts (nat_lt row.number (count_on m f.on)) (length row.values == f.comps) h in record { number = ltb-true row.number (count_on m f.on) both.0; values = eqb-true (length row.values) f.comps both.1 }

right-section : (m : Mesh) (f : Section) → is_right_section m f ≡ true → IsRightSection m f
right-section m f h = let both = and_parts (nat_le 1 f.comps) (list_all (is_right_row m f) f.rows) h in record { some_component = leb-true 1 f.comps both.0; rows = each-told (is_right_row m f) (IsRightRow m f) (right-row m f) f.rows both.1 }

-- a mesh that passes is right
pub right-mesh : (m : Mesh) → is_right m ≡ true → IsRightMesh m
right-mesh m h =
    let sound = and_parts (is_sound m) _ h in
    let some = and_parts (nat_le 1 (length m.cells)) _ sound.1 in
    let few = and_parts (nat_le (length m.cells) 250000) _ some.1 in
    let sets = and_parts (differ_as_sets (map (λ (cell : Cell). cell.vertices) m.cells)) _ few.1 in
    let coordinates = and_parts (list_all (λ (at : List ℤ). length at == 3) m.at) _ sets.1 in
    let rows = and_parts (list_all (is_right_section m) m.fields) (list_all (is_on_point m) m.marks) coordinates.1 in
    record {
      sound = sound-mesh m sound.0;
      some_cell = leb-true 1 (length m.cells) some.0;
      few_cells = leb-true (length m.cells) 250000 few.0;
      differ = sets.0;
      three_coordinates = each-told (λ (at : List ℤ). length at == 3) (λ (at : List ℤ). length at ≡ 3) (λ at e. eqb-true (length at) 3 e) m.at coordinates.0;
      fields = each-told (is_right_section m) (IsRightSection m) (right-section m) m.fields rows.0;
      marks = each-told (is_on_point m) (IsOnPoint m) (λ mark e. e) m.marks rows.1;
    }
