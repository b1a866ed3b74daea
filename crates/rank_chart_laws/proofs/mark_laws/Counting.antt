-- A mesh has at most eight vertices for each cell.
use Rattle.std.proofs.Common.{◌≡◌, ℕ, zero, suc, ◌*◌, ◌<◌, ◌≤◌, Bool, true, false, cond, not, ◌&&◌, ◌||◌, ◌==◌, List, [], ◌∷◌, length, ap, ◌∙◌, ⊎_elim, length-append, arith}
use Rattle.std.specs.Prelude.{flat_map}
use Rattle.std.specs.List.{list_any, filter, AllByRecursion}
use Rattle.std.proofs.lemmas.Bool.{and_from, eqb-true, ne_eqb, or_cases, or_left, or_right}
use Rattle.std.proofs.lemmas.List.Folds.{list_any-append}
use Rattle.plain_lists.proofs.Each.{all_weaker}
use Rattle.plain_lists.proofs.Finding.{any_filter, any_weaker}
use Rattle.mesh_defs.specs.declared.Poly.{Poly}
use Rattle.mesh_defs.specs.declared.Poly.TheVariants.{Vertex, Segment, Triangle, Quad, Tet, Hex}
use Rattle.mesh_defs.specs.Tables.{corner_count}
use Rattle.mesh_defs.specs.Mesh.{Mesh, Cell}
use Rattle.mesh_defs.specs.RightMesh.{IsSoundCell, IsRightMesh}

-- a choice is no longer than the list
filter-short : (p : ℕ → Bool) (xs : List ℕ) → length (filter p xs) ≤ length xs
filter-short p [] = omega arith
filter-short p (x ∷ xs) = go (p x) (filter-short p xs)
  where
    go : (b : Bool) → length (filter p xs) ≤ length xs → length (cond b (x ∷ filter p xs) (filter p xs)) ≤ length (x ∷ xs)
    go true r = omega arith
    go false r = omega arith

-- where one passes, the others are fewer
fewer : (n : ℕ) (xs : List ℕ) → list_any (λ w. w == n) xs ≡ true → length (filter (λ w. not (w == n)) xs) < length xs
fewer n [] h = absurd (cc h)
fewer n (x ∷ xs) h = go (x == n) h (fewer n xs)
  where
    go : (b : Bool) → (b || list_any (λ w. w == n) xs) ≡ true → (list_any (λ w. w == n) xs ≡ true → length (filter (λ w. not (w == n)) xs) < length xs) → length (cond (not b) (x ∷ filter (λ w. not (w == n)) xs) (filter (λ w. not (w == n)) xs)) < length (x ∷ xs)
    go true k r = omega (arith, filter-short (λ w. not (w == n)) xs)
    go false k r = omega (arith, r k)

-- a list that has all numbers below n is no shorter than n
no-shorter : (n : ℕ) (xs : List ℕ) → ((v : ℕ) → v < n → list_any (λ w. w == v) xs ≡ true) → n ≤ length xs
no-shorter zero xs h = omega arith
no-shorter (suc n) xs h =
    let rest : n ≤ length (filter (λ w. not (w == n)) xs) = no-shorter n (filter (λ w. not (w == n)) xs) (λ v low. any_filter (λ w. w == v) (λ w. not (w == n)) xs
    ∙ any_weaker (λ w. w == v) (λ w. not (w == n) && (w == v)) (λ w e. and_from (not (w == n)) (w == v) (ap not (ne_eqb w n (λ f. absurd (omega (arith, eqb-true w v e))))) e) xs (h v (omega arith))) in
    omega (arith, rest, fewer n xs (h n (omega arith)))

-- no polytope has more than eight corners
few-corners : (p : Poly) → corner_count p ≤ 8
few-corners Vertex = omega arith
few-corners Segment = omega arith
few-corners Triangle = omega arith
few-corners Quad = omega arith
few-corners Tet = omega arith
few-corners Hex = omega arith

-- the corners of all cells
corners-few : (cells : List Cell) → AllByRecursion (λ (cell : Cell). length cell.vertices ≡ corner_count cell.poly) cells → length (flat_map (λ (cell : Cell). cell.vertices) cells) ≤ 8 * length cells
corners-few [] h = omega arith
corners-few (cell ∷ cells) h = omega (arith, length-append cell.vertices (flat_map (λ (d : Cell). d.vertices) cells), h.0, few-corners cell.poly, corners-few cells h.1)

-- what some cell has, the corners of all cells have
in-corners : (v : ℕ) (cells : List Cell) → list_any (λ (cell : Cell). list_any (λ w. w == v) cell.vertices) cells ≡ true → list_any (λ w. w == v) (flat_map (λ (cell : Cell). cell.vertices) cells) ≡ true
in-corners v [] h = h
in-corners v (cell ∷ cells) h = list_any-append (λ w. w == v) cell.vertices (flat_map (λ (d : Cell). d.vertices) cells)
    ∙ ⊎_elim (λ e. or_left _ _ e) (λ e. or_right (list_any (λ w. w == v) cell.vertices) _ (in-corners v cells e)) (or_cases (list_any (λ w. w == v) cell.vertices) (list_any (λ (d : Cell). list_any (λ w. w == v) d.vertices) cells) h)

-- the vertices of a right mesh are few
pub vertices-few : (m : Mesh) → IsRightMesh m → length m.at ≤ 2000000
vertices-few m right =
    let all = no-shorter (length m.at) (flat_map (λ (cell : Cell). cell.vertices) m.cells) (λ v low. in-corners v m.cells (right.sound.used v low)) in
    omega (arith, all, corners-few m.cells (all_weaker (IsSoundCell m) (λ (cell : Cell). length cell.vertices ≡ corner_count cell.poly) (λ cell s. s.corners) m.cells right.sound.cells), right.few_cells)
