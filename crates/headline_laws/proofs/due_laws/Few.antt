-- How many points cells have at most.
use Rattle.std.proofs.Common.{◌≡◌, ◌≢◌, ℕ, zero, suc, ◌+◌, ◌*◌, ◌<◌, ◌≤◌, Bool, true, false, cond, ◌||◌, ◌==◌, List, [], ◌∷◌, ◌++◌, map, length, count_by, refl, sym, ap, ◌∙◌, inl, inr, ⊎_elim, arith}
use Rattle.std.specs.Prelude.{flat_map}
use Rattle.std.specs.List.{list_any, AllByRecursion, filter, enumerate_from}
use Rattle.std.proofs.lemmas.Bool.{eq-eqb, eqb-true, ne_eqb, or_left, or_right, or_cases, cond-false}
use Rattle.std.proofs.lemmas.List.{length-append, length-map}
use Rattle.std.proofs.lemmas.List.Sums.{length-filter, sum_by-cons}
use Rattle.std.proofs.lemmas.List.Folds.{list_any-append}
use Rattle.plain_lists.specs.Lists.{below}
use Rattle.plain_lists.proofs.Below.{length-below}
use Rattle.mesh_defs.specs.declared.Poly.{Poly}
use Rattle.mesh_defs.specs.declared.Poly.TheVariants.{Vertex, Segment, Triangle, Quad, Tet, Hex}
use Rattle.mesh_defs.specs.Tables.{dim_of, corner_count, facets_of, edges_of}
use Rattle.mesh_defs.specs.Mesh.{Mesh, Cell, placed_cells}
use Rattle.mesh_defs.specs.Points.{Sight, sights_of, sights, vertex_sight, vertex_sights, cell_face, cell_edge, cell_edges, cell_faces}
use Rattle.mesh_defs.specs.Diagram.{firsts, stratum, strata}
use Rattle.mesh_defs.specs.RightMesh.{IsFlatOrSolid, IsSoundCell, IsSoundMesh}
use Rattle.mesh_laws.proofs.Firsts.{firsts-length}

-- ---- sights

few-facets : (p : Poly) → length (facets_of p) ≤ 6
few-facets Vertex = omega arith
few-facets Segment = omega arith
few-facets Triangle = omega arith
few-facets Quad = omega arith
few-facets Tet = omega arith
few-facets Hex = omega arith

few-edges : (p : Poly) → length (edges_of p) ≤ 12
few-edges Vertex = omega arith
few-edges Segment = omega arith
few-edges Triangle = omega arith
few-edges Quad = omega arith
few-edges Tet = omega arith
few-edges Hex = omega arith

few-corners : (p : Poly) → corner_count p ≤ 8
few-corners Vertex = omega arith
few-corners Segment = omega arith
few-corners Triangle = omega arith
few-corners Quad = omega arith
few-corners Tet = omega arith
few-corners Hex = omega arith

pub length-numbered : {X : Type 0} (n : ℕ) (xs : List X) → length (enumerate_from n xs) ≡ length xs
length-numbered n [] = refl
length-numbered n (x ∷ xs) = ap suc (length-numbered (n + 1) xs)

-- a cell sees at most itself, six faces and twelve edges
cell-few : (c : ℕ) (cell : Cell) → length (sights_of (c, cell)) ≤ 19
unfolding sights_of
cell-few c cell =
    let faces = faces-few (dim_of cell.poly == 3) in
    let edges = length-map (enumerate_from 0 (edges_of cell.poly)) (cell_edge c cell) in
    let numbered = length-numbered 0 (edges_of cell.poly) in
    let most = few-edges cell.poly in
    let both = length-append (cell_faces c cell) (cell_edges c cell) in
    omega (arith, faces, edges, numbered, most, both)
  where
    faces-few : (b : Bool) → length (cond b (map (cell_face c cell) (enumerate_from 0 (facets_of cell.poly))) []) ≤ 6
    faces-few true = let faces = length-map (enumerate_from 0 (facets_of cell.poly)) (cell_face c cell) in let numbered = length-numbered 0 (facets_of cell.poly) in let most = few-facets cell.poly in omega (arith, faces, numbered, most)
    faces-few false = omega arith

pub sights-few : (cells : List (ℕ × Cell)) → length (sights cells) ≤ 19 * length cells
sights-few [] = omega arith
sights-few (c ∷ cs) = let both = length-append (sights_of c) (sights cs) in let own = cell-few c.0 c.1 in let rest = sights-few cs in omega (arith, both, own, rest)

-- ---- vertices

-- without one occurrence of a number there is one less, and every other number is still there
removed : (k : ℕ) (xs : List ℕ) → list_any (λ x. x == k) xs ≡ true → (ys : List ℕ) × (length xs ≡ suc (length ys)) × ((v : ℕ) → v ≢ k → list_any (λ x. x == v) xs ≡ true → list_any (λ x. x == v) ys ≡ true)
removed k [] h = absurd (cc h)
removed k (x ∷ xs) h = go (x == k) refl h (removed k xs)
  where
    Removed : List ℕ → Type 0
    Removed zs = (ys : List ℕ) × (length zs ≡ suc (length ys)) × ((v : ℕ) → v ≢ k → list_any (λ z. z == v) zs ≡ true → list_any (λ z. z == v) ys ≡ true)

    go : (b : Bool) → (x == k) ≡ b → (b || list_any (λ z. z == k) xs) ≡ true → (list_any (λ z. z == k) xs ≡ true → Removed xs) → Removed (x ∷ xs)
    go true e h r = (xs, refl, λ v ne there. ⊎_elim (λ here. absurd (ne (sym (eqb-true x v here) ∙ eqb-true x k e))) (λ later. later) (or_cases (x == v) (list_any (λ z. z == v) xs) there))
    go false e h r =
        let (ys, size, kept) = r h in
        (x ∷ ys, ap suc size, λ v ne there. ⊎_elim (λ here. or_left (x == v) (list_any (λ z. z == v) ys) here) (λ later. or_right (x == v) (list_any (λ z. z == v) ys) (kept v ne later)) (or_cases (x == v) (list_any (λ z. z == v) xs) there))

-- a list that has all numbers below n has n entries
covering : (n : ℕ) (xs : List ℕ) → ((v : ℕ) → v < n → list_any (λ x. x == v) xs ≡ true) → n ≤ length xs
covering zero xs h = omega arith
covering (suc n) xs h =
    let (ys, size, kept) = removed n xs (h n (omega arith)) in
    let rest = covering n ys (λ v low. kept v (λ e. absurd (omega (arith, low, e))) (h v (omega (arith, low)))) in
    omega (arith, size, rest)

-- the corners of all cells
corners-few : (m : Mesh) (cells : List Cell) → AllByRecursion (IsSoundCell m) cells → length (flat_map (λ (cell : Cell). cell.vertices) cells) ≤ 8 * length cells
corners-few m [] h = omega arith
corners-few m (c ∷ cs) h =
    let both = length-append c.vertices (flat_map (λ (cell : Cell). cell.vertices) cs) in
    let corners = h.0.corners in
    let most = few-corners c.poly in
    let rest = corners-few m cs h.1 in
    omega (arith, both, corners, most, rest)

corners-have : (v : ℕ) (cells : List Cell) → list_any (λ (cell : Cell). list_any (λ w. w == v) cell.vertices) cells ≡ list_any (λ w. w == v) (flat_map (λ (cell : Cell). cell.vertices) cells)
corners-have v [] = refl
corners-have v (c ∷ cs) = ap (λ b. list_any (λ w. w == v) c.vertices || b) (corners-have v cs) ∙ sym (list_any-append (λ w. w == v) c.vertices (flat_map (λ (cell : Cell). cell.vertices) cs))

-- a sound mesh has at most eight vertices for each cell
pub vertices-few : (m : Mesh) → IsSoundMesh m → length m.at ≤ 8 * length m.cells
vertices-few m sound =
    let all = covering (length m.at) (flat_map (λ (cell : Cell). cell.vertices) m.cells) (λ v low. sym (corners-have v m.cells) ∙ sound.used v low) in
    let few = corners-few m m.cells sound.cells in
    omega (arith, all, few)

-- ---- points

abbrev of_dim : ℕ → Sight → Bool
of_dim d s = dim_of s.poly == d

-- sights of three dimensions are no more than all
three-few : (ss : List Sight) → count_by (of_dim 3) ss + count_by (of_dim 2) ss + count_by (of_dim 1) ss ≤ length ss
three-few [] = omega arith
three-few (s ∷ ss) =
    let a = sum_by-cons (λ t. cond (of_dim 3 t) 1 0) s ss in
    let b = sum_by-cons (λ t. cond (of_dim 2 t) 1 0) s ss in
    let c = sum_by-cons (λ t. cond (of_dim 1 t) 1 0) s ss in
    let r = three-few ss in
    let one = at_most (dim_of s.poly) in
    omega (arith, a, b, c, r, one)
  where
    mark : Bool → ℕ
    mark b = cond b 1 0

    at_most : (d : ℕ) → mark (d == 3) + mark (d == 2) + mark (d == 1) ≤ 1
    at_most zero = omega arith
    at_most (suc zero) = omega arith
    at_most (suc (suc zero)) = omega arith
    at_most (suc (suc (suc zero))) = omega arith
    at_most (suc (suc (suc (suc d)))) =
        let n : ℕ = suc (suc (suc (suc d))) in
        let three = ap mark (ne_eqb n 3 (λ e. absurd (omega (arith, e)))) in
        let two = ap mark (ne_eqb n 2 (λ e. absurd (omega (arith, e)))) in
        let one = ap mark (ne_eqb n 1 (λ e. absurd (omega (arith, e)))) in
        omega (arith, three, two, one)

-- a stratum above the vertices is no longer than the sights of its dimension
stratum-few : (m : Mesh) (d : ℕ) → d ≢ 0 → length (stratum m d) ≤ count_by (of_dim d) (sights (placed_cells m))
unfolding stratum
stratum-few m d ne =
    let shape = ap length (cond-false (d == 0) (vertex_sights m) (firsts (filter (of_dim d) (sights (placed_cells m)))) (ne_eqb d 0 ne)) in
    let fewer = firsts-length (filter (of_dim d) (sights (placed_cells m))) in
    let count = length-filter (of_dim d) (sights (placed_cells m)) in
    omega (arith, shape, fewer, count)

-- a sound mesh has at most 27 points for each cell
pub strata-few : (m : Mesh) → IsSoundMesh m → length (strata m) ≤ 27 * length m.cells
unfolding strata stratum
strata-few m sound = go sound.dim
  where
    seen : List Sight
    seen = sights (placed_cells m)

    vertices : length (stratum m 0) ≡ length m.at
    vertices = length-map (below (length m.at)) vertex_sight ∙ length-below (length m.at)

    faces : Bool → List Sight
    faces b = cond b (stratum m 2) []

    go : IsFlatOrSolid m → length (stratum m m.dim ++ stratum m 0 ++ faces (m.dim == 3) ++ stratum m 1) ≤ 27 * length m.cells
    go (inl flat) =
        let none = ap (λ b. length (faces b)) (ne_eqb m.dim 3 (λ e. absurd (omega (arith, e, flat)))) in
        let top = ap (λ d. length (stratum m d)) flat in
        let a = stratum-few m 2 (λ e. absurd (cc e)) in
        let b = stratum-few m 1 (λ e. absurd (cc e)) in
        let three = three-few seen in
        let most = sights-few (placed_cells m) in
        let placed = length-numbered 0 m.cells in
        let at = vertices-few m sound in
        let p = length-append (stratum m m.dim ++ stratum m 0 ++ faces (m.dim == 3)) (stratum m 1) in
        let q = length-append (stratum m m.dim ++ stratum m 0) (faces (m.dim == 3)) in
        let r = length-append (stratum m m.dim) (stratum m 0) in
        omega (arith, none, top, a, b, three, most, placed, at, p, q, r, vertices)
    go (inr solid) =
        let some = ap (λ b. length (faces b)) (eq-eqb m.dim 3 solid) in
        let top = ap (λ d. length (stratum m d)) solid in
        let a = stratum-few m 3 (λ e. absurd (cc e)) in
        let b = stratum-few m 2 (λ e. absurd (cc e)) in
        let c = stratum-few m 1 (λ e. absurd (cc e)) in
        let three = three-few seen in
        let most = sights-few (placed_cells m) in
        let placed = length-numbered 0 m.cells in
        let at = vertices-few m sound in
        let p = length-append (stratum m m.dim ++ stratum m 0 ++ faces (m.dim == 3)) (stratum m 1) in
        let q = length-append (stratum m m.dim ++ stratum m 0) (faces (m.dim == 3)) in
        let r = length-append (stratum m m.dim) (stratum m 0) in
        omega (arith, some, top, a, b, c, three, most, placed, at, p, q, r, vertices)
