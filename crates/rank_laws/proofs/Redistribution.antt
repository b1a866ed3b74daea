-- Redistributions one after another are one redistribution.
use Rattle.std.proofs.Common.{◌≡◌, ℕ, ◌+◌, Bool, true, false, cond, not, ◌||◌, ◌==◌, List, [], ◌∷◌, map, length, Option, Some, refl, sym, ap, ◌∙◌, arith, zero-add}
use Rattle.std.specs.Prelude.{find, option_map, filter_map}
use Rattle.std.specs.List.{list_any, position_or_len, AllByRecursion, filter, enumerate_from, cons_option}
use Rattle.std.proofs.lemmas.Bool.{eq-eqb, ne_eqb, cond-true, cond-false}
use Rattle.plain_lists.specs.Lists.{below}
use Rattle.plain_lists.proofs.Each.{all_weaker, all_from, all_map, all_enumerated, all_filter}
use Rattle.plain_lists.proofs.Filters.{map_map_same, image-at}
use Rattle.plain_lists.proofs.Below.{get_or-map-below}
use Rattle.plain_lists.proofs.Finding.{find-map}
use Rattle.mesh_defs.specs.Mesh.{Mesh, placed_cells}
use Rattle.mesh_defs.specs.Points.{Point, Sight, point_of, shows}
use Rattle.mesh_defs.specs.Diagram.{strata, place_in}
use Rattle.mesh_laws.proofs.Firsts.{shows-true}
use Rattle.sf_defs.specs.Forest.{leaf, root_at, root_of, through, compose}
use Rattle.rank_defs.specs.Ranks.{IsAssignment, held, owner}
use Rattle.rank_defs.specs.Spread.{charts, place_at_owner, leaves_at_owners, owned_places, migration_forest}
use Rattle.mesh_defs.specs.RightMesh.{in_some}
use Rattle.rank_laws.proofs.Forests.{is_local}
use Rattle.rank_laws.proofs.Owning.{owner-below}
use Rattle.rank_laws.proofs.PointForests.{IsPoint, chart-points, owner-shows}

-- ---- a point among the leaves of a chart

-- Among the points of a chart that pass a test, with their places, a point that passes is found by its place.
find-place : (p : Point) (test : Point → Bool) → test p ≡ true → (n k : ℕ) (ss : List Sight) → list_any (shows p) ss ≡ true → k ≡ n + position_or_len (shows p) ss
    → (t : Sight) × (find (λ (s : ℕ × Sight). s.0 == k) (filter (λ (s : ℕ × Sight). test (point_of s.1)) (enumerate_from n ss)) ≡ Some (k, t)) × (point_of t ≡ p)
find-place p test passes n k [] h e = absurd (cc h)
find-place p test passes n k (x ∷ xs) h e = go (shows p x) refl h e (find-place p test passes (n + 1) k xs)
  where
    rest : List (ℕ × Sight)
    rest = filter (λ (s : ℕ × Sight). test (point_of s.1)) (enumerate_from (n + 1) xs)

    skipped : (b : Bool) → (n == k) ≡ false → find (λ (s : ℕ × Sight). s.0 == k) (cond b ((n, x) ∷ rest) rest) ≡ find (λ (s : ℕ × Sight). s.0 == k) rest
    skipped true f = cond-false (n == k) (Some (n, x)) (find (λ (s : ℕ × Sight). s.0 == k) rest) f
    skipped false f = refl

    go : (b : Bool) → shows p x ≡ b → (b || list_any (shows p) xs) ≡ true → k ≡ n + cond (not b) (1 + position_or_len (shows p) xs) 0
        → (list_any (shows p) xs ≡ true → k ≡ n + 1 + position_or_len (shows p) xs → (t : Sight) × (find (λ (s : ℕ × Sight). s.0 == k) rest ≡ Some (k, t)) × (point_of t ≡ p))
        → (t : Sight) × (find (λ (s : ℕ × Sight). s.0 == k) (cond (test (point_of x)) ((n, x) ∷ rest) rest) ≡ Some (k, t)) × (point_of t ≡ p)
    go true f g q r =
        let own = shows-true p x f in
        let same : n ≡ k = omega arith in (
          x,
          ap (find (λ (s : ℕ × Sight). s.0 == k)) (cond-true (test (point_of x)) ((n, x) ∷ rest) rest (ap test (sym own) ∙ passes)) ∙ cond-true (n == k) (Some (n, x)) (find (λ (s : ℕ × Sight). s.0 == k) rest) (eq-eqb n k same) ∙ (λ i. Some (same i, x)),
          sym own,
        )
    go false f g q r = let (t, found, is) = r g (omega arith) in (t, skipped (test (point_of x)) (ne_eqb n k (λ same. absurd (omega arith))) ∙ found, is)

-- filtering images, all of which give something
filter_map-images : {X Y Z : Type 0} (f : Y → Option Z) (g : X → Y) (h : X → Z) (xs : List X) → AllByRecursion (λ x. f (g x) ≡ Some (h x)) xs → filter_map f (map g xs) ≡ map h xs
filter_map-images f g h [] e = refl
filter_map-images f g h (x ∷ xs) e = ap (λ o. cons_option o (filter_map f (map g xs))) e.0 ∙ ap (λ l. h x ∷ l) (filter_map-images f g h xs e.1)

-- ---- redistributions

module _ (m : Mesh) (n : ℕ) (a b : List ℕ) (parts : IsAssignment m n b) where
  -- a point of some cell, by its place at its owner under b, looks up its place at its owner under a
  looked-up : (p : Point) → list_any (shows p) (strata m) ≡ true → in_some p (placed_cells m) ≡ true → root_of (migration_forest m a b n) (owner m b p) (place_in (held m b (owner m b p) 0) p) ≡ Some (place_at_owner m a (charts m a n 0) p)
  unfolding root_of migration_forest charts
  looked-up p seen h =
      ap (λ ls. option_map root_at (find (is_local k) ls))
      (image-at [] (λ (r : ℕ × List Sight). leaves_at_owners m a old (owned_places m b r.0 r.1)) (λ j. refl) 0 (map (λ r. held m b r 0) (below n)) rank
      ∙ ap (λ (r : ℕ × List Sight). leaves_at_owners m a old (owned_places m b r.0 r.1)) (λ i. (zero-add rank i, get_or-map-below (λ r. held m b r 0) n rank [] (owner-below m n b parts p h) i)))
      ∙ ap (option_map root_at) (find-map (is_local k) (λ (s : ℕ × Sight). leaf s.0 (place_at_owner m a old (point_of s.1))) (owned_places m b rank (held m b rank 0)) ∙ ap (option_map (λ (s : ℕ × Sight). leaf s.0 (place_at_owner m a old (point_of s.1)))) (found-is).0)
      ∙ ap (λ q. Some (place_at_owner m a old q)) (found-is).1
    where
      rank : ℕ
      rank = owner m b p

      old : List (List Sight)
      old = map (λ r. held m a r 0) (below n)

      k : ℕ
      k = place_in (held m b rank 0) p

      there : list_any (shows p) (held m b rank 0) ≡ true
      there = owner-shows m b 0 p seen h

      found : (t : Sight) × (find (λ (s : ℕ × Sight). s.0 == k) (owned_places m b rank (held m b rank 0)) ≡ Some (k, t)) × (point_of t ≡ p)
      found = find-place p (λ q. owner m b q == rank) (eq-eqb rank rank refl) 0 k (held m b rank 0) there (let e : k ≡ 0 + k = omega arith in e)

      found-is : (find (λ (s : ℕ × Sight). s.0 == k) (owned_places m b rank (held m b rank 0)) ≡ Some (k, found.0)) × (point_of found.0 ≡ p)
      found-is = (found.1, found.2)

  -- a redistribution from a to b and one from b to c are the redistribution from a to c
  pub migrations-compose : (c : List ℕ) → compose (migration_forest m a b n) (migration_forest m b c n) ≡ migration_forest m a c n
  unfolding compose migration_forest charts
  migrations-compose c = λ i. record {
    roots = map length (map (λ r. held m a r 0) (below n));
    leaves = map_map_same (filter_map (through (migration_forest m a b n))) (λ (r : ℕ × List Sight). leaves_at_owners m b (charts m b n 0) (owned_places m c r.0 r.1)) (λ (r : ℕ × List Sight). leaves_at_owners m a (charts m a n 0) (owned_places m c r.0 r.1)) (enumerate_from 0 (charts m c n 0))
        (all_weaker (λ (r : ℕ × List Sight). AllByRecursion (IsPoint m) r.1) (λ (r : ℕ × List Sight). filter_map (through (migration_forest m a b n)) (leaves_at_owners m b (charts m b n 0) (owned_places m c r.0 r.1)) ≡ leaves_at_owners m a (charts m a n 0) (owned_places m c r.0 r.1)) rank
        (enumerate_from 0 (charts m c n 0)) (all_enumerated (AllByRecursion (IsPoint m)) 0 (charts m c n 0) (all_map (AllByRecursion (IsPoint m)) (λ r. held m c r 0) (below n) (all_from _ (λ r. chart-points m c r 0) (below n))))) i;
  }
    where
      one : (s : ℕ × Sight) → IsPoint m s.1 → through (migration_forest m a b n) (leaf s.0 (place_at_owner m b (charts m b n 0) (point_of s.1))) ≡ Some (leaf s.0 (place_at_owner m a (charts m a n 0) (point_of s.1)))
      one s (seen, h) = ap (option_map (leaf s.0)) (ap (λ l. root_of (migration_forest m a b n) (owner m b (point_of s.1)) (place_in l (point_of s.1))) (get_or-map-below (λ r. held m b r 0) n (owner m b (point_of s.1)) [] (owner-below m n b parts (point_of s.1) h)) ∙ looked-up (point_of s.1) seen h)

      rank : (r : ℕ × List Sight) → AllByRecursion (IsPoint m) r.1 → filter_map (through (migration_forest m a b n)) (leaves_at_owners m b (charts m b n 0) (owned_places m c r.0 r.1)) ≡ leaves_at_owners m a (charts m a n 0) (owned_places m c r.0 r.1)
      rank r h = filter_map-images (through (migration_forest m a b n)) (λ s. leaf s.0 (place_at_owner m b (charts m b n 0) (point_of s.1))) (λ s. leaf s.0 (place_at_owner m a (charts m a n 0) (point_of s.1))) (owned_places m c r.0 r.1)
          (all_weaker (λ (s : ℕ × Sight). IsPoint m s.1) (λ s. through (migration_forest m a b n) (leaf s.0 (place_at_owner m b (charts m b n 0) (point_of s.1))) ≡ Some (leaf s.0 (place_at_owner m a (charts m a n 0) (point_of s.1)))) one (owned_places m c r.0 r.1)
          (all_filter (λ (s : ℕ × Sight). IsPoint m s.1) (λ s. owner m c (point_of s.1) == r.0) (enumerate_from 0 r.1) (all_enumerated (IsPoint m) 0 r.1 h)))
