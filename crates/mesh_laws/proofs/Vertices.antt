-- Vertices among all vertices of a mesh: each is found as its own sight, at its own place.
use Rattle.std.proofs.Common.{◌≡◌, ℕ, zero, suc, ◌+◌, ◌<◌, ◌≤◌, true, false, cond, not, ◌||◌, [], ◌∷◌, map, length, Some, refl, sym, ap, ap₂, ◌∙◌, ⊎_elim, arith}
use Rattle.std.specs.Prelude.{find}
use Rattle.std.specs.List.{list_any, position_or_len}
use Rattle.std.proofs.lemmas.Bool.{or_left, or_right, eq-eqb, ne_eqb, cases_lt, cond-true}
use Rattle.std.proofs.lemmas.List.{length-map, map-append}
use Rattle.std.proofs.lemmas.List.Folds.{list_any-append}
use Rattle.plain_lists.specs.Lists.{below}
use Rattle.plain_lists.proofs.Finding.{find-append_found, find-append_none, position-append_found, position-append_none}
use Rattle.plain_lists.proofs.Below.{length-below}
use Rattle.mesh_defs.specs.Points.{point_of, shows, vertex_sight}
use Rattle.mesh_laws.proofs.Containing.{shows-vertex}

-- the vertices below n
pub vertex_above : (n v : ℕ) → n ≤ v → list_any (shows (point_of (vertex_sight v))) (map vertex_sight (below n)) ≡ false
vertex_above zero v h = refl
vertex_above (suc n) v h =
    ap (list_any (shows (point_of (vertex_sight v)))) (map-append vertex_sight (below n) (n ∷ []))
    ∙ list_any-append (shows (point_of (vertex_sight v))) (map vertex_sight (below n)) (vertex_sight n ∷ [])
    ∙ ap₂ (λ s t. s || (t || false)) (vertex_above n v (omega arith)) (shows-vertex v n ∙ ne_eqb v n (λ e. omega arith))

-- a vertex below n is shown
pub vertex_below : (n v : ℕ) → v < n → list_any (shows (point_of (vertex_sight v))) (map vertex_sight (below n)) ≡ true
vertex_below zero v h = absurd (omega arith)
vertex_below (suc n) v h =
    ap (list_any (shows (point_of (vertex_sight v)))) (map-append vertex_sight (below n) (n ∷ []))
    ∙ list_any-append (shows (point_of (vertex_sight v))) (map vertex_sight (below n)) (vertex_sight n ∷ [])
    ∙ ⊎_elim (λ b. or_left _ _ (vertex_below n v b)) (λ b. or_right _ _ (or_left _ _ (shows-vertex v n ∙ eq-eqb v n (omega arith)))) (cases_lt v n)

-- a vertex stands at its own place
pub vertex_place : (n v : ℕ) → v < n → position_or_len (shows (point_of (vertex_sight v))) (map vertex_sight (below n)) ≡ v
vertex_place zero v h = absurd (omega arith)
vertex_place (suc n) v h =
    ap (position_or_len (shows (point_of (vertex_sight v)))) (map-append vertex_sight (below n) (n ∷ []))
    ∙ ⊎_elim
    (λ (b : v < n). position-append_found (shows (point_of (vertex_sight v))) (map vertex_sight (below n)) (vertex_sight n ∷ []) (vertex_below n v b) ∙ vertex_place n v b)
    (λ (b : n ≤ v). position-append_none (shows (point_of (vertex_sight v))) (map vertex_sight (below n)) (vertex_sight n ∷ []) (vertex_above n v b) ∙ here b)
    (cases_lt v n)
  where
    here : n ≤ v → length (map vertex_sight (below n)) + position_or_len (shows (point_of (vertex_sight v))) (vertex_sight n ∷ []) ≡ v
    here b =
        let first : position_or_len (shows (point_of (vertex_sight v))) (vertex_sight n ∷ []) ≡ 0 = ap (λ t. cond (not t) (1 + 0) 0) (shows-vertex v n ∙ eq-eqb v n (omega arith)) in
        omega (arith, first, length-map (below n) vertex_sight, length-below n)

-- a vertex is found as its own sight
pub vertex_found : (n v : ℕ) → v < n → find (shows (point_of (vertex_sight v))) (map vertex_sight (below n)) ≡ Some (vertex_sight v)
vertex_found zero v h = absurd (omega arith)
vertex_found (suc n) v h =
    ap (find (shows (point_of (vertex_sight v)))) (map-append vertex_sight (below n) (n ∷ []))
    ∙ ⊎_elim
    (λ (b : v < n). find-append_found (shows (point_of (vertex_sight v))) (map vertex_sight (below n)) (vertex_sight n ∷ []) (vertex_below n v b) ∙ vertex_found n v b)
    (λ (b : n ≤ v). find-append_none (shows (point_of (vertex_sight v))) (map vertex_sight (below n)) (vertex_sight n ∷ []) (vertex_above n v b) ∙ here b)
    (cases_lt v n)
  where
    here : n ≤ v → find (shows (point_of (vertex_sight v))) (vertex_sight n ∷ []) ≡ Some (vertex_sight v)
    here b = let same : n ≡ v = omega arith in cond-true _ _ _ (shows-vertex v n ∙ eq-eqb v n (sym same)) ∙ ap (λ w. Some (vertex_sight w)) same
