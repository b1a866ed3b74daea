-- What is found in the chart of all points, and lists of few vertices.
use Rattle.std.proofs.Common.{◌≡◌, ◌≢◌, ℕ, suc, ◌+◌, min, max, Bool, true, false, cond, not, ◌&&◌, ◌||◌, ◌==◌, nat_le, if◌then◌else◌, List, [], ◌∷◌, ◌++◌, map, length, get_or, slice_index, ℤ, Some, refl, sym, ap, ap₂, ◌∙◌, inl, inr, ◌⊎◌, ⊎_elim, arith}
use Rattle.std.specs.Prelude.{find, option_map}
use Rattle.std.specs.List.{list_any, position_or_len, filter, enumerate_from}
use Rattle.std.specs.Cmp.Lexicographic.{same_text}
use Rattle.std.proofs.lemmas.Bool.{and_parts, and_from, eqb-true, eq-eqb, ne_eqb, or_left, or_right, or_cases, cond-false, both_ways}
use Rattle.std.proofs.lemmas.List.Folds.{list_any-append}
use Rattle.mesh_defs.specs.declared.Poly.{Poly}
use Rattle.mesh_defs.specs.declared.Poly.TheVariants.{Vertex, Segment, Triangle, Quad, Tet, Hex}
use Rattle.plain_lists.specs.Lists.{same_list, inserted, sorted, picked}
use Rattle.plain_lists.proofs.Finding.{any_weaker, any_map, any_enumerated, find-passes, any_filter, find-cases, find-has}
use Rattle.plain_lists.proofs.Sorted.{same_list-self}
use Rattle.mesh_defs.specs.Tables.{Facet, dim_of, corner_count, facets_of, edges_of}
use Rattle.mesh_defs.specs.Mesh.{Mesh, Cell, placed_cells}
use Rattle.mesh_defs.specs.Points.{Point, Sight, same_point, point_on, point_of, shows, sights_of, sights, vertex_sights, first_sight, arrangement, cell_face, cell_edge}
use Rattle.mesh_defs.specs.Diagram.{firsts, stratum, strata, seen_under}
use Rattle.mesh_laws.proofs.Firsts.{shows-true, list_any-firsts}
use Rattle.mesh_laws.proofs.Turns.{sorted-min_max}
use Rattle.rank_laws.proofs.Strata.{strata-first}
use Rattle.rank_laws.proofs.Shapes.{is_edge_of}

-- ---- what is found in the chart

-- a facet is a point of the mesh, of the facet's polytope, and seen under some orientation
pub record IsSeen (m : Mesh) (poly : Poly) (seen : List ℕ) : Type 0 where
  pub point : Sight
  pub turn : ℤ
  pub found : find (shows (point_on poly seen)) (strata m) ≡ Some point
  pub same_poly : point.poly ≡ poly
  pub arranged : arrangement m (point_on poly seen) ≡ Some point.arrangement
  pub under : seen_under m poly seen ≡ Some turn

-- what the cells see of a dimension of the chart, the chart shows
pub shown-in_strata : (m : Mesh) (p : Point) (dim : ℕ) → p.dim ≡ dim → list_any (shows p) (stratum m dim) ≡ true → (dim ≡ m.dim) ⊎ ((dim ≡ 0) ⊎ ((dim ≡ 1) ⊎ ((dim ≡ 2) × (m.dim ≡ 3)))) → list_any (shows p) (strata m) ≡ true
unfolding strata
shown-in_strata m p dim d h (inl same) = list_any-append (shows p) (stratum m m.dim ++ stratum m 0 ++ cond (m.dim == 3) (stratum m 2) []) (stratum m 1)
    ∙ or_left _ _ (list_any-append (shows p) (stratum m m.dim ++ stratum m 0) (cond (m.dim == 3) (stratum m 2) []) ∙ or_left _ _ (list_any-append (shows p) (stratum m m.dim) (stratum m 0) ∙ or_left _ _ (ap (λ d. list_any (shows p) (stratum m d)) (sym same) ∙ h)))
shown-in_strata m p dim d h (inr (inl same)) = list_any-append (shows p) (stratum m m.dim ++ stratum m 0 ++ cond (m.dim == 3) (stratum m 2) []) (stratum m 1)
    ∙ or_left _ _ (list_any-append (shows p) (stratum m m.dim ++ stratum m 0) (cond (m.dim == 3) (stratum m 2) []) ∙ or_left _ _ (list_any-append (shows p) (stratum m m.dim) (stratum m 0) ∙ or_right (list_any (shows p) (stratum m m.dim)) _ (ap (λ d. list_any (shows p) (stratum m d)) (sym same) ∙ h)))
shown-in_strata m p dim d h (inr (inr (inl same))) = list_any-append (shows p) (stratum m m.dim ++ stratum m 0 ++ cond (m.dim == 3) (stratum m 2) []) (stratum m 1) ∙ or_right (list_any (shows p) (stratum m m.dim ++ stratum m 0 ++ cond (m.dim == 3) (stratum m 2) [])) _ (ap (λ d. list_any (shows p) (stratum m d)) (sym same) ∙ h)
shown-in_strata m p dim d h (inr (inr (inr (same, solid)))) = list_any-append (shows p) (stratum m m.dim ++ stratum m 0 ++ cond (m.dim == 3) (stratum m 2) []) (stratum m 1)
    ∙ or_left _ _ (list_any-append (shows p) (stratum m m.dim ++ stratum m 0) (cond (m.dim == 3) (stratum m 2) []) ∙ or_right (list_any (shows p) (stratum m m.dim ++ stratum m 0)) _ (ap (λ b. list_any (shows p) (cond b (stratum m 2) [])) (eq-eqb m.dim 3 solid) ∙ ap (λ d. list_any (shows p) (stratum m d)) (sym same) ∙ h))

-- what the cells see, the stratum of its dimension shows
pub shown-in_stratum : (m : Mesh) (p : Point) → p.dim ≢ 0 → list_any (shows p) (sights (placed_cells m)) ≡ true → list_any (shows p) (stratum m p.dim) ≡ true
unfolding stratum
shown-in_stratum m p ne h = ap (list_any (shows p)) (cond-false (p.dim == 0) (vertex_sights m) (firsts seen) (ne_eqb p.dim 0 ne)) ∙ list_any-firsts p seen
    ∙ any_filter (shows p) (λ s. dim_of s.poly == p.dim) (sights (placed_cells m)) ∙ any_weaker (shows p) (λ s. (dim_of s.poly == p.dim) && shows p s) (λ s e. and_from (dim_of s.poly == p.dim) (shows p s) (eq-eqb (dim_of s.poly) p.dim (sym (eqb-true p.dim (dim_of s.poly) (and_parts (p.dim == dim_of s.poly) (same_list p.vertices (point_of s).vertices) e).0))) e) (sights (placed_cells m)) h
  where
    seen : List Sight
    seen = filter (λ s. dim_of s.poly == p.dim) (sights (placed_cells m))

-- what the chart shows is found there, as it is first seen
pub found-first : (m : Mesh) (p : Point) → list_any (shows p) (strata m) ≡ true → (t : Sight) × (find (shows p) (strata m) ≡ Some t) × (shows p t ≡ true) × (arrangement m p ≡ Some t.arrangement)
unfolding arrangement
found-first m p h = ⊎_elim
    (λ (w : (t : Sight) × (find (shows p) (strata m) ≡ Some t)).
    let shown = find-passes (shows p) (strata m) w.0 w.1 in
    let first = find-has (λ s. first_sight m (point_of s) ≡ Some s) (shows p) (strata m) w.0 (strata-first m) w.1 in
    (w.0, w.1, shown, ap (λ q. option_map (λ (s : Sight). s.arrangement) (first_sight m q)) (shows-true p w.0 shown) ∙ ap (option_map (λ (s : Sight). s.arrangement)) first))
    (λ none. absurd (both_ways _ none h))
    (find-cases (shows p) (strata m))

-- what stands at the place where something is found
pub at-found : {X : Type 0} (p : X → Bool) (xs : List X) (x d : X) → find p xs ≡ Some x → get_or xs (position_or_len p xs) d ≡ x
at-found p [] x d h = absurd (cc h)
at-found p (y ∷ ys) x d h = go (p y) h (at-found p ys x d)
  where
    go : (b : Bool) → cond b (Some y) (find p ys) ≡ Some x → (find p ys ≡ Some x → get_or ys (position_or_len p ys) d ≡ x) → get_or (y ∷ ys) (cond (not b) (1 + position_or_len p ys) 0) d ≡ x
    go true f r = cc f
    go false f r = ap (λ n. get_or (y ∷ ys) n d) (let e : 1 + position_or_len p ys ≡ suc (position_or_len p ys) = omega arith in e) ∙ r f

-- ---- vertices

-- a list of one
pub one-entry : (vs : List ℕ) → length vs ≡ 1 → vs ≡ slice_index vs 0 ∷ []
one-entry [] h = absurd (omega arith)
one-entry (v ∷ []) h = refl
one-entry (v ∷ w ∷ vs) h = absurd (omega arith)

-- a list of two
pub two-entries : (vs : List ℕ) → length vs ≡ 2 → vs ≡ slice_index vs 0 ∷ slice_index vs 1 ∷ []
two-entries [] h = absurd (omega arith)
two-entries (v ∷ []) h = absurd (omega arith)
two-entries (v ∷ w ∷ []) h = refl
two-entries (v ∷ w ∷ x ∷ vs) h = absurd (omega arith)

-- the polytope of dimension 0
pub poly-zero : (p : Poly) → dim_of p ≡ 0 → p ≡ Vertex
poly-zero Vertex e = refl
poly-zero Segment e = absurd (omega arith)
poly-zero Triangle e = absurd (omega arith)
poly-zero Quad e = absurd (omega arith)
poly-zero Tet e = absurd (omega arith)
poly-zero Hex e = absurd (omega arith)

-- the polytope of dimension 1
pub poly-one : (p : Poly) → dim_of p ≡ 1 → p ≡ Segment
poly-one Vertex e = absurd (omega arith)
poly-one Segment e = refl
poly-one Triangle e = absurd (omega arith)
poly-one Quad e = absurd (omega arith)
poly-one Tet e = absurd (omega arith)
poly-one Hex e = absurd (omega arith)

-- the polytope of a dimension with so many corners
poly_with : ℕ → ℕ → Poly
poly_with dim corners = if dim == 0 then Vertex else if dim == 1 then Segment else if dim == 2 then (if corners == 3 then Triangle else Quad) else if corners == 4 then Tet else Hex

-- a polytope is told by its dimension and its number of corners
told-by : (p : Poly) → poly_with (dim_of p) (corner_count p) ≡ p
unfolding poly_with
told-by Vertex = refl
told-by Segment = refl
told-by Triangle = refl
told-by Quad = refl
told-by Tet = refl
told-by Hex = refl

pub poly-told : (p q : Poly) → dim_of p ≡ dim_of q → corner_count p ≡ corner_count q → p ≡ q
poly-told p q d c = sym (told-by p) ∙ ap₂ poly_with d c ∙ told-by q

-- sorting keeps the number of entries
pub length-inserted : (x : ℕ) (ys : List ℕ) → length (inserted x ys) ≡ suc (length ys)
length-inserted x [] = refl
length-inserted x (y ∷ ys) = go (nat_le x y) (length-inserted x ys)
  where
    go : (b : Bool) → length (inserted x ys) ≡ suc (length ys) → length (cond b (x ∷ y ∷ ys) (y ∷ inserted x ys)) ≡ suc (length (y ∷ ys))
    go true r = refl
    go false r = ap suc r

pub length-sorted : (xs : List ℕ) → length (sorted xs) ≡ length xs
unfolding sorted
length-sorted [] = refl
length-sorted (x ∷ xs) = length-inserted x (sorted xs) ∙ ap suc (length-sorted xs)

-- two vertices are one set, whichever stands first
pub sorted-turned : (a b : ℕ) → sorted (a ∷ b ∷ []) ≡ sorted (b ∷ a ∷ [])
sorted-turned a b = let low : min a b ≡ min b a = omega arith in let high : max a b ≡ max b a = omega arith in sorted-min_max a b ∙ (λ i. low i ∷ high i ∷ []) ∙ sym (sorted-min_max b a)

-- a sight shows the point of a list that is as it or turned round
pub shows-list : (poly : Poly) (vs ws : List ℕ) (k : ℕ) → sorted vs ≡ sorted ws → shows (point_on poly vs) (record { key = k; poly = poly; arrangement = ws }) ≡ true
shows-list poly vs ws k e = and_from (dim_of poly == dim_of poly) (same_list (sorted vs) (sorted ws)) (eq-eqb (dim_of poly) (dim_of poly) refl) (ap (λ l. same_list l (sorted ws)) e ∙ same_list-self (sorted ws))

-- an edge of a cell's polytope is among the sights of the cell, whichever end stands first
pub edge-there : (c : ℕ) (cell : Cell) (i j : ℕ) → is_edge_of cell.poly (i ∷ j ∷ []) ≡ true → list_any (shows (point_on Segment (picked cell.vertices (i ∷ j ∷ [])))) (sights_of (c, cell)) ≡ true
unfolding sights_of
edge-there c cell i j x = or_right (same_point q (point_on cell.poly cell.vertices)) _
    (list_any-append (shows q) (if dim_of cell.poly == 3 then map face (enumerate_from 0 (facets_of cell.poly)) else []) (map edge (enumerate_from 0 (edges_of cell.poly)))
    ∙ or_right (list_any (shows q) (if dim_of cell.poly == 3 then map face (enumerate_from 0 (facets_of cell.poly)) else [])) _
    (any_map (shows q) edge (enumerate_from 0 (edges_of cell.poly)) ∙ any_enumerated (λ (e : List ℕ). same_point q (point_on Segment (picked cell.vertices e))) 0 (edges_of cell.poly)
    ∙ any_weaker (λ f. same_list f (i ∷ j ∷ []) || same_list f (j ∷ i ∷ [])) (λ (e : List ℕ). same_point q (point_on Segment (picked cell.vertices e))) one (edges_of cell.poly) x))
  where
    q : Point
    q = point_on Segment (picked cell.vertices (i ∷ j ∷ []))

    face : ℕ × Facet → Sight
    face = cell_face c cell

    edge : ℕ × List ℕ → Sight
    edge = cell_edge c cell

    one : (f : List ℕ) → (same_list f (i ∷ j ∷ []) || same_list f (j ∷ i ∷ [])) ≡ true → same_point q (point_on Segment (picked cell.vertices f)) ≡ true
    one f h = shows-list Segment (picked cell.vertices (i ∷ j ∷ [])) (picked cell.vertices f) 0
        (⊎_elim (λ e. ap (λ l. sorted (picked cell.vertices l)) (sym (same_text f (i ∷ j ∷ []) (sym e)))) (λ e. sorted-turned (slice_index cell.vertices i) (slice_index cell.vertices j) ∙ ap (λ l. sorted (picked cell.vertices l)) (sym (same_text f (j ∷ i ∷ []) (sym e)))) (or_cases (same_list f (i ∷ j ∷ [])) (same_list f (j ∷ i ∷ [])) h))
