-- Which points ranks share is told by the forest of shared points: the roots that have leaves.
use Rattle.std.proofs.Common.{◌≡◌, ℕ, zero, suc, ◌+◌, ◌<◌, Bool, true, false, cond, not, ◌&&◌, ◌||◌, ◌==◌, nat_lt, List, [], ◌∷◌, map, length, get_or, sum_by, count_by, refl, sym, ap, ap₂, ◌∙◌, subst, arith}
use Rattle.std.specs.List.{list_any, AllByRecursion, filter, position_or_len, enumerate_from}
use Rattle.std.proofs.lemmas.Bool.{eq-eqb, eqb-true, ne_eqb, both_ways, or_left, or_right, lt-ltb, and_parts, and_from, not-true}
use Rattle.std.proofs.lemmas.List.{length-map}
use Rattle.std.proofs.lemmas.List.Sums.{sum_by-cons}
use Rattle.plain_lists.specs.Lists.{below}
use Rattle.plain_lists.proofs.Below.{length-below, get_or-map-below}
use Rattle.plain_lists.proofs.Each.{all_at, all_weaker, all_both, all_map, all_filter, all_from}
use Rattle.plain_lists.proofs.Finding.{same_tests, any_agree, any_same, any_weaker, any_map, any_filter, any_enumerated, among, stands, each_fails, none_passes}
use Rattle.mesh_defs.specs.Mesh.{Mesh, Cell, placed_cells}
use Rattle.mesh_defs.specs.Points.{Point, Sight, point_of, shows, contains}
use Rattle.mesh_defs.specs.Diagram.{place_in}
use Rattle.mesh_defs.specs.Sights.{points_differ}
use Rattle.mesh_defs.specs.RightMesh.{IsSoundMesh, in_some}
use Rattle.mesh_laws.proofs.Firsts.{shows-own, shows-true, same_point-sym}
use Rattle.sf_defs.specs.Forest.{degree, is_on_root, leaf}
use Rattle.rank_laws.proofs.Owning.{in_assigned, ranks-below}
use Rattle.rank_laws.specs.share_laws.Charts.{own_charts}
use Rattle.rank_laws.proofs.share_laws.Own.{own-members, own-differ}
use Rattle.rank_defs.specs.Ranks.{IsAssignment, rank_of, assigned, ranks_at, owner, is_shared}
use Rattle.rank_defs.specs.Spread.{place_at_owner, ghost_places, leaves_at_owners, point_forest, own_chart}
use Rattle.rank_laws.proofs.orient_laws.Tops.{assigned-cells}

-- ---- lists

-- something is counted where something passes
any-counted : {X : Type 0} (p : X → Bool) (xs : List X) → nat_lt 0 (count_by p xs) ≡ list_any p xs
any-counted p [] = refl
any-counted {X} p (x ∷ xs) = ap (nat_lt 0) (sum_by-cons (λ y. cond (p y) 1 0) x xs) ∙ go (p x) (any-counted p xs)
  where
    go : (b : Bool) → nat_lt 0 (count_by p xs) ≡ list_any p xs → nat_lt 0 (cond b 1 0 + count_by p xs) ≡ (b || list_any p xs)
    go true r = lt-ltb 0 (1 + count_by p xs) (omega arith)
    go false r = ap (nat_lt 0) (let z : 0 + count_by p xs ≡ count_by p xs = omega arith in z) ∙ r

any-summed : {X : Type 0} (p : X → Bool) (xss : List (List X)) → nat_lt 0 (sum_by (count_by p) xss) ≡ list_any (list_any p) xss
any-summed p [] = refl
any-summed {X} p (xs ∷ xss) = ap (nat_lt 0) (sum_by-cons (count_by p) xs xss) ∙ (either (count_by p xs) (sum_by (count_by p) xss) ∙ ap₂ (λ b c. b || c) (any-counted p xs) (any-summed p xss))
  where
    either : (k l : ℕ) → nat_lt 0 (k + l) ≡ (nat_lt 0 k || nat_lt 0 l)
    either zero l = ap (nat_lt 0) (let z : 0 + l ≡ l = omega arith in z)
    either (suc k) l = lt-ltb 0 (suc k + l) (omega arith) ∙ sym (or_left (nat_lt 0 (suc k)) (nat_lt 0 l) (lt-ltb 0 (suc k) (omega arith)))

-- the entries of a list, with their places, are given by the places
entries-are : {X : Type 0} (h : ℕ → X) (d : X) (n : ℕ) (xs : List X) → ((k : ℕ) → k < length xs → get_or xs k d ≡ h (n + k)) → AllByRecursion (λ (x : ℕ × X). x.1 ≡ h x.0) (enumerate_from n xs)
entries-are h d n [] e = tt
entries-are h d n (x ∷ xs) e = (
  e 0 (omega arith) ∙ ap h (let z : n + 0 ≡ n = omega arith in z),
  entries-are h d (n + 1) xs (λ k low. e (suc k) (omega (arith, low)) ∙ ap h (let z : n + suc k ≡ n + 1 + k = omega arith in z)),
)

-- where the test passes at a place, it passes among the entries with their places
any-at : {X : Type 0} (g : ℕ × X → Bool) (d : X) (n : ℕ) (xs : List X) (k : ℕ) → k < length xs → g (n + k, get_or xs k d) ≡ true → list_any g (enumerate_from n xs) ≡ true
any-at g d n [] k low h = absurd (omega (arith, low))
any-at g d n (x ∷ xs) zero low h = or_left (g (n, x)) (list_any g (enumerate_from (n + 1) xs)) (ap (λ i. g (i, x)) (let z : n ≡ n + 0 = omega arith in z) ∙ h)
any-at g d n (x ∷ xs) (suc k) low h = or_right (g (n, x)) (list_any g (enumerate_from (n + 1) xs)) (any-at g d (n + 1) xs k (omega (arith, low)) (ap (λ i. g (i, get_or xs k d)) (let z : n + 1 + k ≡ n + suc k = omega arith in z) ∙ h))

-- a fixed test beside another
any-both : {X : Type 0} (b : Bool) (p : X → Bool) (xs : List X) → list_any (λ x. b && p x) xs ≡ (b && list_any p xs)
any-both true p xs = refl
any-both false p xs = none_passes (λ x. false) xs (all_from (λ x. false ≡ false) (λ x. refl) xs)

-- what stands at the position passes
at-position : {X : Type 0} (p : X → Bool) (d : X) (xs : List X) → position_or_len p xs < length xs → p (get_or xs (position_or_len p xs) d) ≡ true
at-position p d [] h = absurd (omega (arith, h))
at-position {X} p d (x ∷ xs) h = go (p x) refl h (at-position p d xs)
  where
    go : (b : Bool) → p x ≡ b → cond (not b) (1 + position_or_len p xs) 0 < suc (length xs) → (position_or_len p xs < length xs → p (get_or xs (position_or_len p xs) d) ≡ true) → p (get_or (x ∷ xs) (cond (not b) (1 + position_or_len p xs) 0) d) ≡ true
    go true e l r = e
    go false e l r = ap (λ k. p (get_or (x ∷ xs) k d)) (let z : 1 + position_or_len p xs ≡ suc (position_or_len p xs) = omega arith in z) ∙ r (omega (arith, l))

-- where points differ, each stands at its own place
own-place : (d : Sight) (ss : List Sight) (i : ℕ) → points_differ ss ≡ true → i < length ss → place_in ss (point_of (get_or ss i d)) ≡ i
own-place d [] i h low = absurd (omega (arith, low))
own-place d (s ∷ ss) zero h low = ap (λ b. cond (not b) (1 + position_or_len (shows (point_of s)) ss) 0) (shows-own s)
own-place d (s ∷ ss) (suc i) h low =
    let both = and_parts (not (list_any (shows (point_of s)) ss)) (points_differ ss) h in
    let t : Sight = get_or ss i d in
    let inside : i < length ss = omega (arith, low) in
    let apart = all_at (λ u. shows (point_of s) u ≡ false) ss i d (each_fails (shows (point_of s)) ss (not-true (list_any (shows (point_of s)) ss) both.0)) inside in
    ap (λ b. cond (not b) (1 + position_or_len (shows (point_of t)) ss) 0) (same_point-sym (point_of t) (point_of s) ∙ apart) ∙ (let r = own-place d ss i both.1 inside in omega (arith, r))

-- ---- the ranks at a point

module _ (m : Mesh) (n : ℕ) (a : List ℕ) (sound : IsSoundMesh m) (parts : IsAssignment m n a) where
  -- the chart of a rank
  chart-of : (r : ℕ) → r < n → get_or (own_charts m a n) r [] ≡ own_chart m (assigned m a r)
  unfolding own_charts
  chart-of r low = get_or-map-below (λ q. own_chart m (assigned m a q)) n r [] low

  charts-length : length (own_charts m a n) ≡ n
  unfolding own_charts
  charts-length = length-map (below n) (λ q. own_chart m (assigned m a q)) ∙ length-below n

  -- each rank at a point is a rank that has it
  ranks-have : (p : Point) → AllByRecursion (λ k. (k < n) × (in_some p (assigned m a k) ≡ true)) (ranks_at m a p)
  unfolding ranks_at
  ranks-have p = all_both (λ k. k < n) (λ k. (q : ℕ → Bool) → q k ≡ true → list_any q (ranks_at m a p) ≡ true) (λ k. (k < n) × (in_some p (assigned m a k) ≡ true))
      (λ k low there. (low, in_assigned m a k p ∙ there (λ q. q == k) (eq-eqb k k refl))) (ranks_at m a p) below_n (stands (ranks_at m a p))
    where
      below_n : AllByRecursion (λ k. k < n) (ranks_at m a p)
      below_n = all_map (λ k. k < n) (rank_of a) (filter (λ (c : ℕ × Cell). contains c.1 p) (placed_cells m)) (all_filter (λ c. rank_of a c < n) (λ (c : ℕ × Cell). contains c.1 p) (placed_cells m) (ranks-below m n a parts))

  -- cells of two ranks contain a point where a rank beside its owner has it
  shared-by : (p : Point) (r : ℕ) → owner m a p ≡ r → list_any (λ (x : ℕ × List Sight). not (r == x.0) && in_some p (assigned m a x.0)) (enumerate_from 0 (own_charts m a n)) ≡ is_shared m a p
  unfolding is_shared
  shared-by p r is = same_tests (list_any has (enumerate_from 0 (own_charts m a n))) (list_any (λ q. not (q == owner m a p)) (ranks_at m a p)) forth back
    where
      has : ℕ × List Sight → Bool
      has x = not (r == x.0) && in_some p (assigned m a x.0)

      forth : list_any has (enumerate_from 0 (own_charts m a n)) ≡ true → list_any (λ q. not (q == owner m a p)) (ranks_at m a p) ≡ true
      forth h =
          let (x, unit, e) = among (λ (x : ℕ × List Sight). Unit {0}) has (enumerate_from 0 (own_charts m a n)) (all_from (λ (x : ℕ × List Sight). Unit {0}) (λ x. tt) (enumerate_from 0 (own_charts m a n))) h in
          let both = and_parts (not (r == x.0)) (in_some p (assigned m a x.0)) e in
          any_weaker (λ q. q == x.0) (λ q. not (q == owner m a p)) (λ q f. ap not (ne_eqb q (owner m a p) (λ g. absurd (both_ways (r == x.0) (not-true (r == x.0) both.0) (eq-eqb r x.0 (sym is ∙ (sym g ∙ eqb-true q x.0 f))))))) (ranks_at m a p) (sym (in_assigned m a x.0 p) ∙ both.1)

      back : list_any (λ q. not (q == owner m a p)) (ranks_at m a p) ≡ true → list_any has (enumerate_from 0 (own_charts m a n)) ≡ true
      back h =
          let (k, have, e) = among (λ k. (k < n) × (in_some p (assigned m a k) ≡ true)) (λ q. not (q == owner m a p)) (ranks_at m a p) (ranks-have p) h in
          any-at has [] 0 (own_charts m a n) k (omega (arith, have.0, charts-length)) (ap (λ j. not (r == j) && in_some p (assigned m a j)) (let z : 0 + k ≡ k = omega arith in z) ∙ and_from (not (r == k)) (in_some p (assigned m a k)) (ap not (ne_eqb r k (λ g. absurd (both_ways (k == owner m a p) (not-true (k == owner m a p) e) (eq-eqb k (owner m a p) (sym g ∙ sym is)))))) have.1)

  -- ---- the degree of a root

  module _ (r i : ℕ) (low : r < n) (d : Sight) (inside : i < length (own_chart m (assigned m a r))) where
    abbrev s : Sight
    s = get_or (own_chart m (assigned m a r)) i d

    -- a leaf of rank k for the point that t shows is on the root
    abbrev test : ℕ → Sight → Bool
    test k t = not (owner m a (point_of t) == k) && ((owner m a (point_of t) == r) && (place_in (get_or (own_charts m a n) (owner m a (point_of t)) []) (point_of t) == i))

    degree-as_test : nat_lt 0 (degree (point_forest m a (own_charts m a n)) r i) ≡ list_any (λ (x : ℕ × List Sight). list_any (test x.0) x.1) (enumerate_from 0 (own_charts m a n))
    unfolding degree point_forest
    degree-as_test =
        let cs : List (List Sight) = own_charts m a n in
        any-summed (is_on_root (r, i)) (map (λ (x : ℕ × List Sight). leaves_at_owners m a cs (ghost_places m a x.0 x.1)) (enumerate_from 0 cs))
        ∙ (any_map (list_any (is_on_root (r, i))) (λ (x : ℕ × List Sight). leaves_at_owners m a cs (ghost_places m a x.0 x.1)) (enumerate_from 0 cs)
        ∙ any_same (λ (x : ℕ × List Sight). list_any (is_on_root (r, i)) (leaves_at_owners m a cs (ghost_places m a x.0 x.1))) (λ x. list_any (test x.0) x.1)
        (λ x. any_map (is_on_root (r, i)) (λ (t : ℕ × Sight). leaf t.0 (place_at_owner m a cs (point_of t.1))) (ghost_places m a x.0 x.1)
        ∙ (any_filter (λ (t : ℕ × Sight). is_on_root (r, i) (leaf t.0 (place_at_owner m a cs (point_of t.1)))) (λ (t : ℕ × Sight). not (owner m a (point_of t.1) == x.0)) (enumerate_from 0 x.1) ∙ any_enumerated (test x.0) 0 x.1))
        (enumerate_from 0 cs))

    module _ (owned : owner m a (point_of s) ≡ r) where
      -- such a leaf is for the point that stands there
      test-is : (k : ℕ) (t : Sight) → test k t ≡ (not (r == k) && shows (point_of s) t)
      test-is k t = go (shows (point_of s) t) refl
        where
          differ : points_differ (own_chart m (assigned m a r)) ≡ true
          differ = own-differ m (assigned m a r) sound.dim

          place-of : place_in (get_or (own_charts m a n) r []) (point_of s) ≡ i
          place-of = ap (λ c. place_in c (point_of s)) (chart-of r low) ∙ own-place d (own_chart m (assigned m a r)) i differ inside

          shown : (owner m a (point_of t) == r) ≡ true → (place_in (get_or (own_charts m a n) (owner m a (point_of t)) []) (point_of t) == i) ≡ true → shows (point_of s) t ≡ true
          shown e f =
              let chart : List Sight = own_chart m (assigned m a r) in
              let place : place_in chart (point_of t) ≡ i = ap (λ c. place_in c (point_of t)) (sym (ap (λ q. get_or (own_charts m a n) q []) (eqb-true (owner m a (point_of t)) r e) ∙ chart-of r low)) ∙ eqb-true (place_in (get_or (own_charts m a n) (owner m a (point_of t)) []) (point_of t)) i f in
              same_point-sym (point_of s) (point_of t) ∙ (ap (λ j. shows (point_of t) (get_or chart j d)) (sym place) ∙ at-position (shows (point_of t)) d chart (omega (arith, place, inside)))

          neither : (b c : Bool) → (b ≡ true → c ≡ true → shows (point_of s) t ≡ true) → shows (point_of s) t ≡ false → (b && c) ≡ false
          neither true true f e = absurd (both_ways (shows (point_of s) t) e (f refl refl))
          neither true false f e = refl
          neither false c f e = refl

          nothing : (b : Bool) → (b && false) ≡ false
          nothing true = refl
          nothing false = refl

          go : (b : Bool) → shows (point_of s) t ≡ b → test k t ≡ (not (r == k) && shows (point_of s) t)
          go true e =
              let same = shows-true (point_of s) t e in
              let by : owner m a (point_of t) ≡ r = ap (owner m a) (sym same) ∙ owned in
              let place : place_in (get_or (own_charts m a n) (owner m a (point_of t)) []) (point_of t) ≡ i = (λ j. place_in (get_or (own_charts m a n) (by j) []) (sym same j)) ∙ place-of in
              (λ j. not (by j == k) && (eq-eqb (owner m a (point_of t)) r by j && eq-eqb (place_in (get_or (own_charts m a n) (owner m a (point_of t)) []) (point_of t)) i place j)) ∙ ap (λ b. not (r == k) && b) (sym e)
          go false e =
              ap (λ b. not (owner m a (point_of t) == k) && b) (neither (owner m a (point_of t) == r) (place_in (get_or (own_charts m a n) (owner m a (point_of t)) []) (point_of t) == i) shown e)
              ∙ (nothing (not (owner m a (point_of t) == k)) ∙ (sym (nothing (not (r == k))) ∙ ap (λ b. not (r == k) && b) (sym e)))

      -- an owned point is shared where its root has a leaf
      pub shared-degree : is_shared m a (point_of s) ≡ nat_lt 0 (degree (point_forest m a (own_charts m a n)) r i)
      shared-degree =
          sym (degree-as_test
          ∙ (any_agree (λ (x : ℕ × List Sight). list_any (test x.0) x.1) (λ (x : ℕ × List Sight). not (r == x.0) && in_some (point_of s) (assigned m a x.0)) (enumerate_from 0 (own_charts m a n))
          (all_both (λ (x : ℕ × List Sight). x.1 ≡ get_or (own_charts m a n) x.0 []) (λ (x : ℕ × List Sight). x.0 < n) (λ x. list_any (test x.0) x.1 ≡ (not (r == x.0) && in_some (point_of s) (assigned m a x.0))) each (enumerate_from 0 (own_charts m a n))
          (entries-are (λ k. get_or (own_charts m a n) k []) [] 0 (own_charts m a n) (λ k l. ap (λ j. get_or (own_charts m a n) j []) (let z : k ≡ 0 + k = omega arith in z))) (subst (λ j. AllByRecursion (λ (x : ℕ × List Sight). x.0 < j) (enumerate_from 0 (own_charts m a n))) (let z : 0 + length (own_charts m a n) ≡ n = omega (arith, charts-length) in z) (places 0 (own_charts m a n))))
          ∙ shared-by (point_of s) r owned))
        where
          each : (x : ℕ × List Sight) → x.1 ≡ get_or (own_charts m a n) x.0 [] → x.0 < n → list_any (test x.0) x.1 ≡ (not (r == x.0) && in_some (point_of s) (assigned m a x.0))
          each x e l =
              any_same (test x.0) (λ t. not (r == x.0) && shows (point_of s) t) (test-is x.0) x.1
              ∙ (any-both (not (r == x.0)) (shows (point_of s)) x.1
              ∙ ap (λ b. not (r == x.0) && b) (ap (list_any (shows (point_of s))) (e ∙ chart-of x.0 l) ∙ own-members m (assigned m a x.0) sound (assigned-cells m a x.0) (point_of s)))

          places : (k : ℕ) (xs : List (List Sight)) → AllByRecursion (λ (x : ℕ × List Sight). x.0 < k + length xs) (enumerate_from k xs)
          places k [] = tt
          places k (x ∷ xs) = (omega arith, all_weaker (λ (y : ℕ × List Sight). y.0 < k + 1 + length xs) (λ (y : ℕ × List Sight). y.0 < k + length (x ∷ xs)) (λ y h. omega (arith, h)) (enumerate_from (k + 1) xs) (places (k + 1) xs))
