-- The leaves of redistributions, and the first trace.
use Rattle.std.proofs.Common.{◌≡◌, ℕ, ◌+◌, ◌<◌, true, false, cond, not, ◌==◌, List, [], ◌∷◌, map, length, get_or, refl, ap, ◌∙◌, arith, zero-add}
use Rattle.std.specs.List.{list_any, AllByRecursion, filter, enumerate_from}
use Rattle.std.proofs.lemmas.Bool.{and_parts, eqb-true, not-true}
use Rattle.plain_lists.specs.Lists.{below}
use Rattle.plain_lists.proofs.Each.{all_both, all_filter, all_enumerated}
use Rattle.plain_lists.proofs.Filters.{map_same, image-at, filter_passing, filter-mapped}
use Rattle.plain_lists.proofs.Finding.{each_fails}
use Rattle.plain_lists.proofs.Below.{get_or-map-below}
use Rattle.mesh_defs.specs.Mesh.{Mesh}
use Rattle.mesh_defs.specs.Points.{Sight, point_of, shows}
use Rattle.mesh_defs.specs.Diagram.{place_in}
use Rattle.mesh_defs.specs.Sights.{points_differ}
use Rattle.mesh_defs.specs.RightMesh.{IsFlatOrSolid}
use Rattle.mesh_laws.proofs.Firsts.{shows-own, same_point-sym}
use Rattle.sf_defs.specs.Forest.{leaf, leaves_on}
use Rattle.rank_defs.specs.Ranks.{held_cells, held, owner, owned}
use Rattle.rank_defs.specs.Spread.{charts, leaves_at_owners, owned_places, migration_forest, trace}
use Rattle.rank_laws.proofs.Owning.{owned-order}
use Rattle.rank_laws.proofs.reach_laws.Charts.{chart-differs}

-- different points that are numbered have their places as numbers
numbered-places : (base : ℕ) (ss : List Sight) → points_differ ss ≡ true → AllByRecursion (λ (x : ℕ × Sight). x.0 ≡ base + place_in ss (point_of x.1)) (enumerate_from base ss)
numbered-places base [] h = tt
numbered-places base (s ∷ ss) h =
    let both = and_parts (not (list_any (shows (point_of s)) ss)) (points_differ ss) h in
    let others = all_enumerated (λ t. shows (point_of s) t ≡ false) (base + 1) ss (each_fails (shows (point_of s)) ss (not-true (list_any (shows (point_of s)) ss) both.0)) in (
      (let here : place_in (s ∷ ss) (point_of s) ≡ 0 = ap (λ b. cond (not b) (1 + place_in ss (point_of s)) 0) (shows-own s) in omega (arith, here)),
      all_both (λ (x : ℕ × Sight). shows (point_of s) x.1 ≡ false) (λ (x : ℕ × Sight). x.0 ≡ base + 1 + place_in ss (point_of x.1)) (λ (x : ℕ × Sight). x.0 ≡ base + place_in (s ∷ ss) (point_of x.1))
          (λ x other at. let behind : place_in (s ∷ ss) (point_of x.1) ≡ 1 + place_in ss (point_of x.1) = ap (λ b. cond (not b) (1 + place_in ss (point_of x.1)) 0) (same_point-sym (point_of x.1) (point_of s) ∙ other) in omega (arith, behind, at))
          (enumerate_from (base + 1) ss) others (numbered-places (base + 1) ss both.1),
    )

elements : {X : Type 0} (n : ℕ) (xs : List X) → map (λ (x : ℕ × X). x.1) (enumerate_from n xs) ≡ xs
elements n [] = refl
elements n (x ∷ xs) = ap (λ l. x ∷ l) (elements (n + 1) xs)

-- a leaf for each owned point, on its trace
pub leaves-traced : (m : Mesh) (n : ℕ) (a b : List ℕ) (r : ℕ) → r < n → leaves_on (migration_forest m a b n) r ≡ map (λ (s : ℕ × Sight). leaf s.0 (trace m a n (point_of s.1))) (owned_places m b r (held m b r 0))
unfolding migration_forest charts trace
leaves-traced m n a b r low =
    image-at [] (λ (x : ℕ × List Sight). leaves_at_owners m a (map (λ q. held m a q 0) (below n)) (owned_places m b x.0 x.1)) (λ j. refl) 0 (map (λ q. held m b q 0) (below n)) r
    ∙ ap (λ (x : ℕ × List Sight). leaves_at_owners m a (map (λ q. held m a q 0) (below n)) (owned_places m b x.0 x.1)) (λ i. (zero-add r i, get_or-map-below (λ q. held m b q 0) n r [] low i))

-- the points that have places are the owned points
pub places-owned : (m : Mesh) (a : List ℕ) (r k : ℕ) → map (λ (s : ℕ × Sight). s.1) (owned_places m a r (held m a r k)) ≡ owned m a r
places-owned m a r k = filter-mapped (λ (s : ℕ × Sight). s.1) (λ (s : Sight). owner m a (point_of s) == r) (enumerate_from 0 (held m a r k)) ∙ (ap (filter (λ (s : Sight). owner m a (point_of s) == r)) (elements 0 (held m a r k)) ∙ owned-order m a r k)

-- the roots are as many as the points of the old charts
pub roots-counted : (m : Mesh) (n : ℕ) (a b : List ℕ) → (migration_forest m a b n).roots ≡ map length (charts m a n 0)
unfolding migration_forest
roots-counted m n a b = refl

-- in the redistribution to the same assignment each leaf is on itself
pub first-traced : (m : Mesh) (n : ℕ) (a : List ℕ) (r : ℕ) → IsFlatOrSolid m → r < n → leaves_on (migration_forest m a a n) r ≡ map (λ (s : ℕ × Sight). leaf s.0 (r, s.0)) (owned_places m a r (held m a r 0))
unfolding trace charts held
first-traced m n a r dim low = leaves-traced m n a a r low
    ∙ map_same (λ (s : ℕ × Sight). leaf s.0 (trace m a n (point_of s.1))) (λ (s : ℕ × Sight). leaf s.0 (r, s.0)) (owned_places m a r (held m a r 0))
    (all_both (λ (s : ℕ × Sight). (owner m a (point_of s.1) == r) ≡ true) (λ (s : ℕ × Sight). s.0 ≡ 0 + place_in (held m a r 0) (point_of s.1)) (λ (s : ℕ × Sight). leaf s.0 (trace m a n (point_of s.1)) ≡ leaf s.0 (r, s.0)) here (owned_places m a r (held m a r 0))
    (filter_passing (λ (s : ℕ × Sight). owner m a (point_of s.1) == r) (enumerate_from 0 (held m a r 0)))
    (all_filter (λ (s : ℕ × Sight). s.0 ≡ 0 + place_in (held m a r 0) (point_of s.1)) (λ (s : ℕ × Sight). owner m a (point_of s.1) == r) (enumerate_from 0 (held m a r 0)) (numbered-places 0 (held m a r 0) (chart-differs m (held_cells m a r 0) dim))))
  where
    here : (s : ℕ × Sight) → (owner m a (point_of s.1) == r) ≡ true → s.0 ≡ 0 + place_in (held m a r 0) (point_of s.1) → leaf s.0 (trace m a n (point_of s.1)) ≡ leaf s.0 (r, s.0)
    here s mine at =
        let own : owner m a (point_of s.1) ≡ r = eqb-true (owner m a (point_of s.1)) r mine in
        let number : place_in (held m a r 0) (point_of s.1) ≡ s.0 = omega (arith, at) in
        ap (leaf s.0) ((λ i. (own i, place_in (get_or (map (λ q. held m a q 0) (below n)) (own i) []) (point_of s.1))) ∙ (λ i. (r, (ap (λ l. place_in l (point_of s.1)) (get_or-map-below (λ q. held m a q 0) n r [] low) ∙ number) i)))
