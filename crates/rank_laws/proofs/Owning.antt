-- What ranks hold and own.
use Rattle.std.proofs.Common.{◌≤◌, fold, min, Contains, length, ◌+◌, append-nil, IsPermutation, nat_lt, ◌≡◌, ℕ, zero, suc, ◌<◌, Bool, true, false, cond, not, ◌&&◌, ◌||◌, ◌==◌, List, [], ◌∷◌, ◌++◌, map, refl, sym, ap, ap₂, ◌∙◌, subst, ⊎_elim, arith}
use Rattle.std.specs.Prelude.{flat_map, unwrap_or}
use Rattle.std.specs.List.{list_any, AllByRecursion, filter, enumerate_from}
use Rattle.std.proofs.lemmas.List.Sorted.{IsPermutation-refl, IsPermutation-trans, IsPermutation-append, IsPermutation-filter_both}
use Rattle.std.proofs.lemmas.List.Concat.{flat_map-append}
use Rattle.plain_lists.specs.Lists.{below}
use Rattle.plain_lists.proofs.Finding.{same_tests, any_map, any_weaker, any_same, any_filter, stands, any_implied}
use Rattle.plain_lists.proofs.Each.{all_at, all_map, all_filter, all_from, all_weaker}
use Rattle.plain_lists.proofs.Filters.{filter_passing, flat_map_same, filter_whole, and_implied, filter_within, filter_agree, filter_filter}
use Rattle.plain_lists.proofs.Least.{least-among, least-bound}
use Rattle.mesh_laws.proofs.Containing.{chart-all}
use Rattle.std.proofs.lemmas.Bool.{cond-true, cond-false, ltb-true, ltb-false, lt-ltb, le-ltb, not-true, eq-eqb, eqb-true, or_left, or_cases, both_ways, and_parts, and_from}
use Rattle.mesh_defs.specs.Mesh.{Mesh, Cell, placed_cells}
use Rattle.mesh_defs.specs.Points.{Point, Sight, point_of, contains}
use Rattle.mesh_defs.specs.Diagram.{strata, chart}
use Rattle.rank_defs.specs.Ranks.{IsAssignment, least, rank_of, assigned, touches, layer, held_cells, held, ranks_at, owner, owned}
use Rattle.mesh_defs.specs.RightMesh.{UsesVertices, in_some}

-- an assigned cell of a rank contains a point just where the rank is one of those at the point
pub in_assigned : (m : Mesh) (a : List ℕ) (r : ℕ) (p : Point) → in_some p (assigned m a r) ≡ list_any (λ q. q == r) (ranks_at m a p)
unfolding assigned ranks_at
in_assigned m a r p =
    any_filter (λ (c : ℕ × Cell). contains c.1 p) (λ (c : ℕ × Cell). rank_of a c == r) (placed_cells m)
    ∙ any_same (λ (c : ℕ × Cell). (rank_of a c == r) && contains c.1 p) (λ (c : ℕ × Cell). contains c.1 p && (rank_of a c == r)) (λ c. swapped (rank_of a c == r) (contains c.1 p)) (placed_cells m)
    ∙ sym (any_map (λ q. q == r) (rank_of a) (filter (λ (c : ℕ × Cell). contains c.1 p) (placed_cells m)) ∙ any_filter (λ (c : ℕ × Cell). rank_of a c == r) (λ (c : ℕ × Cell). contains c.1 p) (placed_cells m))
  where
    swapped : (b c : Bool) → (b && c) ≡ (c && b)
    swapped true true = refl
    swapped true false = refl
    swapped false true = refl
    swapped false false = refl

-- where some cell contains a point, its owner is one of the ranks at the point
pub owner-at : (m : Mesh) (a : List ℕ) (p : Point) → in_some p (placed_cells m) ≡ true → list_any (λ q. q == owner m a p) (ranks_at m a p) ≡ true
unfolding owner ranks_at
owner-at m a p h = go (filter (λ (c : ℕ × Cell). contains c.1 p) (placed_cells m)) (any_true (placed_cells m) h)
  where
    go : (cells : List (ℕ × Cell)) → list_any (λ (c : ℕ × Cell). true) cells ≡ true → list_any (λ q. q == unwrap_or (least (map (rank_of a) cells)) 0) (map (rank_of a) cells) ≡ true
    go [] e = absurd (cc e)
    go (c ∷ cs) e = least-among (rank_of a c) (map (rank_of a) cs)

    any_true : (cells : List (ℕ × Cell)) → in_some p cells ≡ true → list_any (λ (c : ℕ × Cell). true) (filter (λ (c : ℕ × Cell). contains c.1 p) cells) ≡ true
    any_true cells e = any_filter (λ (c : ℕ × Cell). true) (λ (c : ℕ × Cell). contains c.1 p) cells ∙ any_weaker (λ (c : ℕ × Cell). contains c.1 p) (λ (c : ℕ × Cell). contains c.1 p && true) (λ c t. and_from (contains c.1 p) true t refl) cells e

-- no rank at a point is below its owner
pub owner-least : (m : Mesh) (a : List ℕ) (r : ℕ) (p : Point) → in_some p (assigned m a r) ≡ true → owner m a p ≤ r
unfolding owner
owner-least m a r p h = go (ranks_at m a p) (sym (in_assigned m a r p) ∙ h)
  where
    low : (k : ℕ) (xs : List ℕ) → AllByRecursion (λ y. k ≤ y) xs → list_any (λ q. q == r) xs ≡ true → k ≤ r
    low k [] b e = absurd (cc e)
    low k (x ∷ xs) b e = ⊎_elim (λ c. let is = eqb-true x r c in omega (arith, b.0)) (λ c. low k xs b.1 c) (or_cases (x == r) (list_any (λ q. q == r) xs) e)

    go : (xs : List ℕ) → list_any (λ q. q == r) xs ≡ true → unwrap_or (least xs) 0 ≤ r
    go [] e = absurd (cc e)
    go (x ∷ xs) e = low (fold min x xs) (x ∷ xs) (least-bound x xs) e

-- the owner of a point has an assigned cell that contains it
pub owner-assigned : (m : Mesh) (a : List ℕ) (p : Point) → in_some p (placed_cells m) ≡ true → in_some p (assigned m a (owner m a p)) ≡ true
owner-assigned m a p h = in_assigned m a (owner m a p) p ∙ owner-at m a p h

-- ---- layers

-- what a rank holds is a part of all cells, and each layer has the one before it
module _ (m : Mesh) (a : List ℕ) (r : ℕ) where
  -- which of the cells a rank holds
  pub is_held : (k : ℕ) → (test : ℕ × Cell → Bool) × (held_cells m a r k ≡ filter test (placed_cells m))
  unfolding held_cells assigned layer
  is_held zero = ((λ c. rank_of a c == r), refl)
  is_held (suc k) = ((λ (c : ℕ × Cell). list_any (λ (d : ℕ × Cell). (c.0 == d.0) || touches c.1 d.1) (held_cells m a r k)), refl)

  -- what holds of some cell of one layer holds of some cell of the next
  pub layer-has : (k : ℕ) (p : ℕ × Cell → Bool) → list_any p (held_cells m a r k) ≡ true → list_any p (held_cells m a r (suc k)) ≡ true
  unfolding held_cells layer
  layer-has k p h = any_filter p near (placed_cells m) ∙ any_implied (λ c. own c && p c) (λ c. near c && p c) (placed_cells m) each (sym (any_filter p own (placed_cells m)) ∙ ap (list_any p) (sym (is_held k).1) ∙ h)
    where
      own : ℕ × Cell → Bool
      own = (is_held k).0

      near : ℕ × Cell → Bool
      near c = list_any (λ (d : ℕ × Cell). (c.0 == d.0) || touches c.1 d.1) (held_cells m a r k)

      one : (c : ℕ × Cell) → ((q : ℕ × Cell → Bool) → q c ≡ true → list_any q (placed_cells m) ≡ true) → (own c && p c) ≡ true → (near c && p c) ≡ true
      one c s e = let both = and_parts (own c) (p c) e in
          and_from (near c) (p c)
          (ap (list_any (λ (d : ℕ × Cell). (c.0 == d.0) || touches c.1 d.1)) (is_held k).1 ∙ any_filter (λ (d : ℕ × Cell). (c.0 == d.0) || touches c.1 d.1) own (placed_cells m)
          ∙ s (λ d. own d && ((c.0 == d.0) || touches c.1 d.1)) (and_from (own c) ((c.0 == c.0) || touches c.1 c.1) both.0 (or_left (c.0 == c.0) (touches c.1 c.1) (eq-eqb c.0 c.0 refl))))
          both.1

      each : AllByRecursion (λ c. (own c && p c) ≡ true → (near c && p c) ≡ true) (placed_cells m)
      each = all_weaker (λ c. (q : ℕ × Cell → Bool) → q c ≡ true → list_any q (placed_cells m) ≡ true) (λ c. (own c && p c) ≡ true → (near c && p c) ≡ true) one (placed_cells m) (stands (placed_cells m))

  -- all layers have the assigned cells
  pub layers-have : (k : ℕ) (p : ℕ × Cell → Bool) → list_any p (assigned m a r) ≡ true → list_any p (held_cells m a r k) ≡ true
  unfolding held_cells
  layers-have zero p h = h
  layers-have (suc k) p h = layer-has k p (layers-have k p h)

  -- what holds of some held cell holds of some cell
  pub held-are_cells : (k : ℕ) (p : ℕ × Cell → Bool) → list_any p (held_cells m a r k) ≡ true → list_any p (placed_cells m) ≡ true
  held-are_cells k p h = let own = (is_held k).0 in
      any_weaker (λ c. own c && p c) p (λ c e. (and_parts (own c) (p c) e).1) (placed_cells m) (sym (any_filter p own (placed_cells m)) ∙ ap (list_any p) (sym (is_held k).1) ∙ h)

  -- the chart with k layers is the part of the chart with one more layer that cells with k layers contain
  pub chart-grows : (k : ℕ) → filter (λ s. in_some (point_of s) (held_cells m a r k)) (held m a r (suc k)) ≡ held m a r k
  unfolding held chart
  chart-grows k =
      filter_within (λ s. in_some (point_of s) (held_cells m a r k)) (λ s. in_some (point_of s) (held_cells m a r (suc k))) (λ s h. layer-has k (λ (c : ℕ × Cell). contains c.1 (point_of s)) h) (strata m)

  -- a point of a chart that the rank owns is contained in an assigned cell
  owned-assigned : (k : ℕ) (p : Point) → (owner m a p == r) ≡ true → in_some p (held_cells m a r k) ≡ true → in_some p (assigned m a r) ≡ true
  owned-assigned k p o h = subst (λ q. in_some p (assigned m a q) ≡ true) (eqb-true (owner m a p) r o) (owner-assigned m a p (held-are_cells k (λ (c : ℕ × Cell). contains c.1 p) h))

  -- the owned points stand in the same order in every chart
  pub owned-order : (k : ℕ) → filter (λ s. owner m a (point_of s) == r) (held m a r k) ≡ owned m a r
  unfolding held chart owned held_cells
  owned-order k =
      filter_filter mine (has k) (strata m) ∙ filter_agree (λ s. has k s && mine s) (λ s. has 0 s && mine s) (strata m) (every (strata m)) ∙ sym (filter_filter mine (has 0) (strata m))
    where
      mine : Sight → Bool
      mine s = owner m a (point_of s) == r

      has : ℕ → Sight → Bool
      has l s = in_some (point_of s) (held_cells m a r l)

      same : (b c d : Bool) → (d ≡ true → b ≡ true → c ≡ true) → (c ≡ true → b ≡ true) → (b && d) ≡ (c && d)
      same true true d f g = refl
      same true false true f g = absurd (both_ways false refl (f refl refl))
      same true false false f g = refl
      same false true d f g = absurd (both_ways false refl (g refl))
      same false false d f g = refl

      every : (ss : List Sight) → AllByRecursion (λ s. (has k s && mine s) ≡ (has 0 s && mine s)) ss
      every [] = tt
      every (s ∷ ss) = (same (has k s) (has 0 s) (mine s) (λ o h. owned-assigned k (point_of s) o h) (λ h. layers-have k (λ (c : ℕ × Cell). contains c.1 (point_of s)) h), every ss)

-- ---- all points, each once

module _ {X : Type 0} (f : X → ℕ) where
  -- the elements with a number below n, by their numbers
  by_numbers : (n : ℕ) (xs : List X) → IsPermutation (filter (λ x. nat_lt (f x) n) xs) (flat_map (λ r. filter (λ x. f x == r) xs) (below n))
  by_numbers zero xs = subst (λ l. IsPermutation l []) (sym (none xs)) (IsPermutation-refl [])
    where
      none : (ys : List X) → filter (λ x. nat_lt (f x) 0) ys ≡ []
      none [] = refl
      none (y ∷ ys) = cond-false (nat_lt (f y) 0) (y ∷ filter (λ x. nat_lt (f x) 0) ys) (filter (λ x. nat_lt (f x) 0) ys) (le-ltb (f y) 0 (omega arith)) ∙ none ys
  by_numbers (suc n) xs = IsPermutation-trans (filter below_next xs) (filter (λ x. nat_lt (f x) n) xs ++ filter (λ x. f x == n) xs) (flat_map (λ r. filter (λ x. f x == r) xs) (below (suc n)))
      split
      (subst (λ l. IsPermutation (filter (λ x. nat_lt (f x) n) xs ++ filter (λ x. f x == n) xs) l) (sym (flat_map-append (λ r. filter (λ x. f x == r) xs) (below n) (n ∷ []) ∙ ap (λ l. flat_map (λ r. filter (λ x. f x == r) xs) (below n) ++ l) (append-nil (filter (λ x. f x == n) xs))))
      (IsPermutation-append (filter (λ x. nat_lt (f x) n) xs) (flat_map (λ r. filter (λ x. f x == r) xs) (below n)) (filter (λ x. f x == n) xs) (filter (λ x. f x == n) xs) (by_numbers n xs) (IsPermutation-refl (filter (λ x. f x == n) xs))))
    where
      below_next : X → Bool
      below_next x = nat_lt (f x) (suc n)

      low : (x : X) → (below_next x && nat_lt (f x) n) ≡ nat_lt (f x) n
      low x = and_implied (below_next x) (nat_lt (f x) n) (λ h. let e = ltb-true (f x) n h in lt-ltb (f x) (suc n) (omega arith))

      at_n : (x : X) → (below_next x && not (nat_lt (f x) n)) ≡ (f x == n)
      at_n x = same_tests (below_next x && not (nat_lt (f x) n)) (f x == n)
          (λ h. let both = and_parts (below_next x) (not (nat_lt (f x) n)) h in let up = ltb-true (f x) (suc n) both.0 in let low = ltb-false (f x) n (not-true (nat_lt (f x) n) both.1) in eq-eqb (f x) n (omega arith))
          (λ h. let e = eqb-true (f x) n h in and_from (below_next x) (not (nat_lt (f x) n)) (lt-ltb (f x) (suc n) (omega arith)) (ap not (le-ltb (f x) n (omega arith))))

      split : IsPermutation (filter below_next xs) (filter (λ x. nat_lt (f x) n) xs ++ filter (λ x. f x == n) xs)
      split = subst (λ l. IsPermutation (filter below_next xs) l)
          (ap₂ (λ k l. k ++ l)
          (filter_filter (λ x. nat_lt (f x) n) below_next xs ∙ filter_agree (λ x. below_next x && nat_lt (f x) n) (λ x. nat_lt (f x) n) xs (all_from _ low xs))
          (filter_filter (λ x. not (nat_lt (f x) n)) below_next xs ∙ filter_agree (λ x. below_next x && not (nat_lt (f x) n)) (λ x. f x == n) xs (all_from _ at_n xs)))
          (IsPermutation-filter_both (λ x. nat_lt (f x) n) (λ x. not (nat_lt (f x) n)) (λ x. refl) (filter below_next xs))

  -- where all numbers are below n, all elements by their numbers
  pub all_by_numbers : (n : ℕ) (xs : List X) → AllByRecursion (λ x. f x < n) xs → IsPermutation xs (flat_map (λ r. filter (λ x. f x == r) xs) (below n))
  all_by_numbers n xs h = subst (λ l. IsPermutation l (flat_map (λ r. filter (λ x. f x == r) xs) (below n)))
      (filter_whole (λ x. nat_lt (f x) n) xs (all_weaker (λ x. f x < n) (λ x. nat_lt (f x) n ≡ true) (λ x b. lt-ltb (f x) n b) xs h))
      (by_numbers n xs)

-- ---- a mesh whose vertices are in use, and an assignment to n ranks

-- a number among some that are below n
pub below_among : {X : Type 0} (f : X → ℕ) (n k : ℕ) (xs : List X) → AllByRecursion (λ x. f x < n) xs → list_any (λ x. f x == k) xs ≡ true → k < n
below_among f n k [] h e = absurd (cc e)
below_among f n k (x ∷ xs) h e = ⊎_elim (λ a. let is = eqb-true (f x) k a in omega (arith, h.0)) (λ a. below_among f n k xs h.1 a) (or_cases (f x == k) (list_any (λ y. f y == k) xs) e)

-- the places of enumerated things
places-below : {X : Type 0} (n : ℕ) (xs : List X) → AllByRecursion (λ (c : ℕ × X). c.0 < n + length xs) (enumerate_from n xs)
places-below n [] = tt
places-below n (x ∷ xs) = (omega arith, all_weaker (λ (c : ℕ × _). c.0 < n + 1 + length xs) (λ (c : ℕ × _). c.0 < n + length (x ∷ xs)) (λ c h. omega arith) (enumerate_from (n + 1) xs) (places-below (n + 1) xs))

module _ (m : Mesh) (n : ℕ) (a : List ℕ) (parts : IsAssignment m n a) where
  -- each cell has a rank below n
  pub ranks-below : AllByRecursion (λ c. rank_of a c < n) (placed_cells m)
  ranks-below = all_weaker (λ (c : ℕ × Cell). c.0 < 0 + length m.cells) (λ c. rank_of a c < n) (λ c h. all_at (λ r. r < n) a c.0 0 parts.in_range (omega (arith, parts.count))) (placed_cells m) (places-below 0 m.cells)

  -- the owner of a point in some cell is below n
  pub owner-below : (p : Point) → in_some p (placed_cells m) ≡ true → owner m a p < n
  unfolding ranks_at
  owner-below p h = below_among (λ q. q) n (owner m a p) (ranks_at m a p) at_point (owner-at m a p h)
    where
      at_point : AllByRecursion (λ q. q < n) (ranks_at m a p)
      at_point = all_map (λ q. q < n) (rank_of a) (filter (λ (c : ℕ × Cell). contains c.1 p) (placed_cells m)) (all_filter (λ c. rank_of a c < n) (λ (c : ℕ × Cell). contains c.1 p) (placed_cells m) ranks-below)

module _ (m : Mesh) (used : UsesVertices m) where
  -- each point is contained in some cell
  pub points-in_cells : AllByRecursion (λ s. in_some (point_of s) (placed_cells m) ≡ true) (strata m)
  unfolding chart
  points-in_cells = subst (λ l. AllByRecursion (λ s. in_some (point_of s) (placed_cells m) ≡ true) l) (whole ∙ chart-all m used) (filter_passing (λ s. in_some (point_of s) (placed_cells m)) (strata m))
    where
      whole : filter (λ s. in_some (point_of s) (placed_cells m)) (strata m) ≡ chart m (placed_cells m)
      whole = refl

  -- what a rank owns is what of all points it owns
  pub owned-of_all : (a : List ℕ) (r : ℕ) → owned m a r ≡ filter (λ s. owner m a (point_of s) == r) (strata m)
  unfolding owned held held_cells chart
  owned-of_all a r = filter_filter (λ s. owner m a (point_of s) == r) (λ s. in_some (point_of s) (assigned m a r)) (strata m)
      ∙ filter_agree (λ s. in_some (point_of s) (assigned m a r) && (owner m a (point_of s) == r)) (λ s. owner m a (point_of s) == r) (strata m)
      (all_weaker (λ s. in_some (point_of s) (placed_cells m) ≡ true) (λ s. (in_some (point_of s) (assigned m a r) && (owner m a (point_of s) == r)) ≡ (owner m a (point_of s) == r))
      (λ s h. and_implied (in_some (point_of s) (assigned m a r)) (owner m a (point_of s) == r) (λ e. subst (λ q. in_some (point_of s) (assigned m a q) ≡ true) (eqb-true (owner m a (point_of s)) r e) (owner-assigned m a (point_of s) h)))
      (strata m) points-in_cells)

  -- the owned points of all ranks are all points
  pub owned-all : (n : ℕ) (a : List ℕ) → IsAssignment m n a → IsPermutation (strata m) (flat_map (owned m a) (below n))
  owned-all n a parts = subst (λ l. IsPermutation (strata m) l)
      (flat_map_same (λ r. filter (λ s. owner m a (point_of s) == r) (strata m)) (owned m a) (below n) (all_from _ (λ r. sym (owned-of_all a r)) (below n)))
      (all_by_numbers (λ s. owner m a (point_of s)) n (strata m) (all_weaker (λ s. in_some (point_of s) (placed_cells m) ≡ true) (λ s. owner m a (point_of s) < n) (λ s h. owner-below m n a parts (point_of s) h) (strata m) points-in_cells))

-- a point in some cell stands in the chart of its owner
pub owner-holds : (m : Mesh) (a : List ℕ) (s : Sight) → Contains (strata m) s → in_some (point_of s) (placed_cells m) ≡ true → Contains (held m a (owner m a (point_of s)) 0) s
unfolding held held_cells chart
owner-holds m a s c h = kept (strata m) (owner-assigned m a (point_of s) h) c
  where
    P : Sight → Bool
    P t = in_some (point_of t) (assigned m a (owner m a (point_of s)))

    kept : (ss : List Sight) → P s ≡ true → Contains ss s → Contains (filter P ss) s
    kept [] e (k, low, at) = absurd (omega arith)
    kept (t ∷ ts) e (zero, low, at) = subst (λ l. Contains l s) (sym (cond-true (P t) (t ∷ filter P ts) (filter P ts) (ap P at ∙ e))) (zero, omega arith, at)
    kept (t ∷ ts) e (suc k, low, at) = go (P t) (kept ts e (k, omega arith, at))
      where
        go : (b : Bool) → Contains (filter P ts) s → Contains (cond b (t ∷ filter P ts) (filter P ts)) s
        go true (j, l, x) = (suc j, omega arith, x)
        go false r = r
