-- Over the forest of shared points the sums that ranks have from their own cells add up to the weights of the points.
use Rattle.std.proofs.Common.{◌≡◌, ℕ, zero, suc, ◌+◌, ◌*◌, ◌<◌, ◌≤◌, Bool, true, false, cond, not, ◌&&◌, ◌==◌, List, [], ◌∷◌, ◌++◌, map, length, get_or, sum_by, Option, Some, None, refl, sym, ap, ◌∙◌, subst, ⊎_elim, arith, zero-add}
use Rattle.std.specs.Prelude.{filter, find, option_map, unwrap_or}
use Rattle.std.specs.List.{list_any, AllByRecursion, enumerate_from}
use Rattle.std.proofs.lemmas.Bool.{and_from, and_parts, eq-eqb, eqb-true}
use Rattle.std.proofs.lemmas.List.{map-append, get_or-map, length-map}
use Rattle.std.proofs.lemmas.List.FromFn.{length-enumerate_from}
use Rattle.std.proofs.lemmas.Nat.{mul-le}
use Rattle.plain_lists.specs.Lists.{below}
use Rattle.plain_lists.proofs.Below.{below-all, get_or-map-below, length-below}
use Rattle.plain_lists.proofs.Each.{all_at, all_from, all_map, all_weaker}
use Rattle.plain_lists.proofs.Filters.{filter-mapped, filter_filter, image-at, map_map_same}
use Rattle.plain_lists.proofs.Finding.{each_fails, find-cases, find-has, find-passes, same_tests}
use Rattle.mesh_defs.specs.Mesh.{Mesh, Cell, placed_cells}
use Rattle.mesh_defs.specs.Points.{Point, Sight, point_of, shows, contains}
use Rattle.mesh_defs.specs.Diagram.{place_in}
use Rattle.mesh_defs.specs.RightMesh.{IsFlatOrSolid, IsSoundMesh, in_some}
use Rattle.mesh_laws.proofs.Firsts.{shows-true, shows-own}
use Rattle.plex_defs.specs.Fields.{weight}
use Rattle.sf_defs.specs.declared.Leaf.{Leaf}
use Rattle.sf_defs.specs.Forest.{Forest, leaf, is_on_root, leaves_on, root_at, root_of}
use Rattle.rank_defs.specs.Ranks.{IsAssignment, assigned, held_cells, owner, rank_of}
use Rattle.rank_defs.specs.Spread.{own_chart, place_at_owner, leaves_at_owners, ghost_places, point_forest}
use Rattle.rank_laws.proofs.Owning.{owner-assigned, owner-below, held-are_cells}
use Rattle.rank_laws.specs.share_laws.Charts.{own_charts}
use Rattle.rank_laws.proofs.share_laws.Own.{own-differ, own-inside}
use Rattle.rank_laws.proofs.share_laws.Owners.{shown-by}
use Rattle.sf_defs.specs.sums.Sums.{home, own_sum, sum_at, word_at, SumsFit}
use Rattle.rank_chart_laws.specs.field_laws.Weights.{no_sight, weight_in, own_weights, rank_weights}
use Rattle.rank_chart_laws.proofs.field_laws.Sums.{all-or, enumerated-low, sum-bound, sum-both, sum-filter, sum-filter-le, sum-map, sum-numbered, sum-one, sum-same, sum-zeros}
use Rattle.rank_chart_laws.proofs.field_laws.Places.{leaf-at, place-is, shown-sum, shown-there}
use Rattle.rank_chart_laws.proofs.field_laws.Weights.{weight-by_rank, weight-none}

-- ---- lists of ranks

-- enumerated images of enumerated things
enumerated-twice : {X Y : Type 0} (g : ℕ × X → Y) (n : ℕ) (xs : List X) → enumerate_from n (map g (enumerate_from n xs)) ≡ map (λ (x : ℕ × X). (x.0, g x)) (enumerate_from n xs)
enumerated-twice g n [] = refl
enumerated-twice g n (x ∷ xs) = ap (λ l. (n, g (n, x)) ∷ l) (enumerated-twice g (n + 1) xs)

-- one more enumerated thing
enumerated-push : {X : Type 0} (n : ℕ) (xs : List X) (x : X) → enumerate_from n (xs ++ x ∷ []) ≡ enumerate_from n xs ++ (n + length xs, x) ∷ []
enumerated-push n [] x = ap (λ k. (k, x) ∷ []) (let e : n ≡ n + 0 = omega arith in e)
enumerated-push n (y ∷ ys) x = ap (λ l. (n, y) ∷ l) (enumerated-push (n + 1) ys x ∙ ap (λ k. enumerate_from (n + 1) ys ++ (k, x) ∷ []) (let e : n + 1 + length ys ≡ n + length (y ∷ ys) = omega arith in e))

-- what is made of the numbers below n, enumerated
enumerated-below : {X : Type 0} (h : ℕ → X) (n : ℕ) → enumerate_from 0 (map h (below n)) ≡ map (λ r. (r, h r)) (below n)
enumerated-below h zero = refl
enumerated-below h (suc n) =
    ap (enumerate_from 0) (map-append h (below n) (n ∷ []))
    ∙ (enumerated-push 0 (map h (below n)) (h n)
    ∙ ((λ i. enumerated-below h n i ++ (count i, h n) ∷ [])
    ∙ sym (map-append (λ r. (r, h r)) (below n) (n ∷ []))))
  where
    count : 0 + length (map h (below n)) ≡ n
    count = zero-add (length (map h (below n))) ∙ (length-map (below n) h ∙ length-below n)

module _ (m : Mesh) (n : ℕ) (a : List ℕ) (dim : IsFlatOrSolid m) (sound : IsSoundMesh m) (parts : IsAssignment m n a) where
  abbrev chart-of : ℕ → List Sight
  chart-of r = own_chart m (assigned m a r)

  abbrev forest : Forest
  forest = point_forest m a (own_charts m a n)

  abbrev words : List (List ℕ)
  words = rank_weights m a n

  abbrev at-rank : ℕ → Point → ℕ
  at-rank r p = weight_in (assigned m a r) p

  -- the place of a point at its owner
  abbrev at-owner : Point → ℕ × ℕ
  at-owner p = (owner m a p, place_in (chart-of (owner m a p)) p)

  chart-at : (r : ℕ) → r < n → get_or (own_charts m a n) r [] ≡ chart-of r
  unfolding own_charts
  chart-at r low = get_or-map-below chart-of n r [] low

  -- a point of a chart is in some cell
  point-in : (r i : ℕ) → i < length (chart-of r) → in_some (point_of (get_or (chart-of r) i no_sight)) (placed_cells m) ≡ true
  unfolding held_cells
  point-in r i low = held-are_cells m a r 0 (λ (c : ℕ × Cell). contains c.1 (point_of (get_or (chart-of r) i no_sight))) (all_at (λ s. in_some (point_of s) (assigned m a r) ≡ true) (chart-of r) i no_sight (own-inside m (assigned m a r)) low)

  -- its owner has it
  owner-shows : (p : Point) → in_some p (placed_cells m) ≡ true → list_any (shows p) (chart-of (owner m a p)) ≡ true
  owner-shows p h = shown-by m n a sound parts (owner m a p) p ∙ owner-assigned m a p h

  owner-place : (p : Point) → in_some p (placed_cells m) ≡ true → place_at_owner m a (own_charts m a n) p ≡ at-owner p
  owner-place p h = ap (λ c. (owner m a p, place_in c p)) (chart-at (owner m a p) (owner-below m n a parts p h))

  -- points at one place of one owner are one
  same-place : (p q : Point) → in_some p (placed_cells m) ≡ true → in_some q (placed_cells m) ≡ true → at-owner q ≡ at-owner p → q ≡ p
  same-place p q hp hq e =
      let o : owner m a q ≡ owner m a p = ap (λ (x : ℕ × ℕ). x.0) e in
      let k : place_in (chart-of (owner m a q)) q ≡ place_in (chart-of (owner m a p)) p = ap (λ (x : ℕ × ℕ). x.1) e in
      let at-p = (shown-there p (chart-of (owner m a p)) no_sight (owner-shows p hp)).1 in
      let at-q = (shown-there q (chart-of (owner m a q)) no_sight (owner-shows q hq)).1 in
      shows-true q (get_or (chart-of (owner m a q)) (place_in (chart-of (owner m a q)) q) no_sight) at-q
      ∙ ((λ i. point_of (get_or (chart-of (o i)) (k i) no_sight))
      ∙ sym (shows-true p (get_or (chart-of (owner m a p)) (place_in (chart-of (owner m a p)) p) no_sight) at-p))

  -- ---- the words of ranks

  word-is : (r : ℕ) → r < n → (i : ℕ) → i < length (chart-of r) → word_at words r i ≡ at-rank r (point_of (get_or (chart-of r) i no_sight))
  unfolding rank_weights
  word-is r low i inside = ap (λ ws. get_or ws i 0) (get_or-map-below (λ q. own_weights m (assigned m a q)) n r [] low) ∙ get_or-map (λ (s : Sight). at-rank r (point_of s)) (chart-of r) i no_sight 0 inside

  -- where a rank does not show a point it has no weight of it
  unseen : (r : ℕ) (p : Point) → list_any (shows p) (chart-of r) ≡ false → at-rank r p ≡ 0
  unseen r p h = weight-none (assigned m a r) p (sym (shown-by m n a sound parts r p) ∙ h)

  -- ---- the leaves of a rank on the root of a point

  abbrev is_ghost : ℕ → Sight → Bool
  is_ghost r s = not (owner m a (point_of s) == r)

  abbrev root-of : Sight → ℕ × ℕ
  root-of s = place_at_owner m a (own_charts m a n) (point_of s)

  abbrev leaves-of : ℕ → List Leaf
  leaves-of r = leaves_at_owners m a (own_charts m a n) (ghost_places m a r (chart-of r))

  abbrev on-root : ℕ × ℕ → Sight → Bool
  on-root root s = ((root-of s).0 == root.0) && ((root-of s).1 == root.1)

  -- a ghost lies on the root of a point where it is this point
  ghost-on : (r : ℕ) (p : Point) → in_some p (placed_cells m) ≡ true → (s : Sight) → in_some (point_of s) (placed_cells m) ≡ true → (is_ghost r s && on-root (at-owner p) s) ≡ (not (owner m a p == r) && shows p s)
  ghost-on r p hp s hs = same_tests (is_ghost r s && on-root (at-owner p) s) (not (owner m a p == r) && shows p s)
      (λ h.
      let both = and_parts (is_ghost r s) (on-root (at-owner p) s) h in
      let places = and_parts ((root-of s).0 == owner m a p) ((root-of s).1 == place_in (chart-of (owner m a p)) p) both.1 in
      let first = eqb-true (root-of s).0 (owner m a p) places.0 in
      let second = eqb-true (root-of s).1 (place_in (chart-of (owner m a p)) p) places.1 in
      let root : at-owner (point_of s) ≡ at-owner p = sym (owner-place (point_of s) hs) ∙ (λ i. (first i, second i)) in
      let same : point_of s ≡ p = same-place p (point_of s) hp hs root in
      and_from (not (owner m a p == r)) (shows p s) (subst (λ q. not (owner m a q == r) ≡ true) same both.0) (subst (λ q. shows q s ≡ true) same (shows-own s)))
      (λ h.
      let both = and_parts (not (owner m a p == r)) (shows p s) h in
      let same : p ≡ point_of s = shows-true p s both.1 in
      let root : root-of s ≡ at-owner p = owner-place (point_of s) hs ∙ ap at-owner (sym same) in
      and_from (is_ghost r s) (on-root (at-owner p) s) (subst (λ q. not (owner m a q == r) ≡ true) same both.0)
      (and_from ((root-of s).0 == owner m a p) ((root-of s).1 == place_in (chart-of (owner m a p)) p) (eq-eqb (root-of s).0 (owner m a p) (ap (λ (x : ℕ × ℕ). x.0) root)) (eq-eqb (root-of s).1 (place_in (chart-of (owner m a p)) p) (ap (λ (x : ℕ × ℕ). x.1) root))))

  -- the points of a chart are in cells
  chart-in : (r : ℕ) → AllByRecursion (λ s. in_some (point_of s) (placed_cells m) ≡ true) (chart-of r)
  unfolding held_cells
  chart-in r = all_weaker (λ s. in_some (point_of s) (assigned m a r) ≡ true) (λ s. in_some (point_of s) (placed_cells m) ≡ true) (λ s h. held-are_cells m a r 0 (λ (c : ℕ × Cell). contains c.1 (point_of s)) h) (chart-of r) (own-inside m (assigned m a r))

  -- what the leaves of a rank on a root add, point by point
  rank-sums : (r : ℕ) → r < n → (root : ℕ × ℕ) → own_sum words root (r, leaves-of r) ≡ sum_by (λ s. cond (is_ghost r s && on-root root s) (at-rank r (point_of s)) 0) (chart-of r)
  rank-sums r low root =
      ap (sum_by (λ (l : Leaf). word_at words r l.local)) (sym (filter-mapped to-leaf (is_on_root root) ghosts))
      ∙ (sum-map (λ (l : Leaf). word_at words r l.local) to-leaf (filter (λ (s : ℕ × Sight). on-root root s.1) ghosts)
      ∙ (ap (sum_by (λ (s : ℕ × Sight). word_at words r s.0)) (filter_filter (λ (s : ℕ × Sight). on-root root s.1) (λ (s : ℕ × Sight). is_ghost r s.1) numbered)
      ∙ (sum-filter (λ (s : ℕ × Sight). is_ghost r s.1 && on-root root s.1) (λ (s : ℕ × Sight). word_at words r s.0) numbered
      ∙ sum-numbered (λ s. is_ghost r s && on-root root s) (λ s. at-rank r (point_of s)) (get_or words r []) 0 (chart-of r) no_sight (λ k inside. ap (word_at words r) (zero-add k) ∙ word-is r low k inside))))
    where
      numbered : List (ℕ × Sight)
      numbered = enumerate_from 0 (chart-of r)

      ghosts : List (ℕ × Sight)
      ghosts = filter (λ (s : ℕ × Sight). is_ghost r s.1) numbered

      to-leaf : ℕ × Sight → Leaf
      to-leaf s = leaf s.0 (root-of s.1)

  -- on the root of a point they add the rank's weight of the point, and nothing where the rank owns it
  rank-adds : (r : ℕ) → r < n → (p : Point) → in_some p (placed_cells m) ≡ true → own_sum words (at-owner p) (r, leaves-of r) ≡ cond (owner m a p == r) 0 (at-rank r p)
  rank-adds r low p hp =
      rank-sums r low (at-owner p)
      ∙ (sum-same (λ s. cond (is_ghost r s && on-root (at-owner p) s) (at-rank r (point_of s)) 0) (λ s. cond (not (owner m a p == r) && shows p s) (at-rank r p) 0) (chart-of r)
      (all_weaker (λ s. in_some (point_of s) (placed_cells m) ≡ true) (λ s. cond (is_ghost r s && on-root (at-owner p) s) (at-rank r (point_of s)) 0 ≡ cond (not (owner m a p == r) && shows p s) (at-rank r p) 0)
      (λ s hs. ap (λ b. cond b (at-rank r (point_of s)) 0) (ghost-on r p hp s hs) ∙ same-weight s (not (owner m a p == r)) (shows p s) refl) (chart-of r) (chart-in r))
      ∙ by-owner (owner m a p == r))
    where
      same-weight : (s : Sight) (x b : Bool) → shows p s ≡ b → cond (x && b) (at-rank r (point_of s)) 0 ≡ cond (x && b) (at-rank r p) 0
      same-weight s true true e = ap (at-rank r) (sym (shows-true p s e))
      same-weight s true false e = refl
      same-weight s false b e = refl

      by-owner : (b : Bool) → sum_by (λ s. cond (not b && shows p s) (at-rank r p) 0) (chart-of r) ≡ cond b 0 (at-rank r p)
      by-owner true = sum-zeros (λ s. 0) (chart-of r) (all_from (λ s. 0 ≡ 0) (λ s. refl) (chart-of r))
      by-owner false = shown-sum p (chart-of r) (own-differ m (assigned m a r) dim) (at-rank r p) (unseen r p)

  -- ---- all ranks

  charts-listed : enumerate_from 0 (own_charts m a n) ≡ map (λ r. (r, chart-of r)) (below n)
  unfolding own_charts
  charts-listed = enumerated-below chart-of n

  leaves-listed : enumerate_from 0 forest.leaves ≡ map (λ r. (r, leaves-of r)) (below n)
  unfolding point_forest
  leaves-listed =
      enumerated-twice made 0 (own_charts m a n)
      ∙ (ap (map (λ (x : ℕ × List Sight). (x.0, made x))) charts-listed
      ∙ map_map_same (λ (x : ℕ × List Sight). (x.0, made x)) (λ r. (r, chart-of r)) (λ r. (r, leaves-of r)) (below n) (all_from _ (λ r. refl) (below n)))
    where
      made : ℕ × List Sight → List Leaf
      made x = leaves_at_owners m a (own_charts m a n) (ghost_places m a x.0 x.1)

  -- the sum at the root of a point is its weight
  point-sum : (p : Point) → in_some p (placed_cells m) ≡ true → sum_at forest words (at-owner p) ≡ weight m p
  unfolding sum_at
  point-sum p hp =
      let o : ℕ = owner m a p in
      let low : o < n = owner-below m n a parts p hp in
      let there = shown-there p (chart-of o) no_sight (owner-shows p hp) in
      let root : word_at words o (place_in (chart-of o) p) ≡ at-rank o p = word-is o low (place_in (chart-of o) p) there.0 ∙ ap (at-rank o) (sym (shows-true p (get_or (chart-of o) (place_in (chart-of o) p) no_sight) there.1)) in
      let others : sum_by (own_sum words (at-owner p)) (enumerate_from 0 forest.leaves) ≡ sum_by (λ r. cond (o == r) 0 (at-rank r p)) (below n) =
      ap (sum_by (own_sum words (at-owner p))) leaves-listed
      ∙ (sum-map (own_sum words (at-owner p)) (λ r. (r, leaves-of r)) (below n)
      ∙ sum-same (λ r. own_sum words (at-owner p) (r, leaves-of r)) (λ r. cond (o == r) 0 (at-rank r p)) (below n) (all_weaker (λ r. r < n) (λ r. own_sum words (at-owner p) (r, leaves-of r) ≡ cond (o == r) 0 (at-rank r p)) (λ r h. rank-adds r h p hp) (below n) (below-all n))) in
      let all : sum_by (λ r. at-rank r p) (below n) ≡ at-rank o p + sum_by (λ r. cond (o == r) 0 (at-rank r p)) (below n) =
      sum-same (λ r. at-rank r p) (λ r. cond (o == r) (at-rank r p) 0 + cond (o == r) 0 (at-rank r p)) (below n) (all_from _ (λ r. parted (o == r) (at-rank r p)) (below n))
      ∙ (sum-both (λ r. cond (o == r) (at-rank r p) 0) (λ r. cond (o == r) 0 (at-rank r p)) (below n)
      ∙ ap (λ x. x + sum_by (λ r. cond (o == r) 0 (at-rank r p)) (below n)) (sum-one (λ r. at-rank r p) n o low)) in
      (λ i. root i + others i) ∙ (sym all ∙ sym (weight-by_rank m n a p parts))
    where
      parted : (b : Bool) (x : ℕ) → x ≡ cond b x 0 + cond b 0 x
      parted true x = omega arith
      parted false x = omega arith

  -- ---- the root of a place

  leaves-are : (r : ℕ) → r < n → leaves_on forest r ≡ leaves-of r
  unfolding point_forest
  leaves-are r low =
      image-at [] (λ (x : ℕ × List Sight). leaves_at_owners m a (own_charts m a n) (ghost_places m a x.0 x.1)) (λ j. refl) 0 (own_charts m a n) r
      ∙ ap (λ (x : ℕ × List Sight). leaves_at_owners m a (own_charts m a n) (ghost_places m a x.0 x.1)) (λ i. (zero-add r i, chart-at r low i))

  root-is : (r : ℕ) → r < n → (i : ℕ) → i < length (chart-of r) → root_of forest r i ≡ cond (is_ghost r (get_or (chart-of r) i no_sight)) (Some (root-of (get_or (chart-of r) i no_sight))) None
  unfolding root_of
  root-is r low i inside =
      ap (λ ls. option_map root_at (find (λ (l : Leaf). l.local == i) ls)) (leaves-are r low)
      ∙ (coe 0 1 (j. option_map root_at (find (λ (l : Leaf). l.local == zero-add i j) (leaves-of r)) ≡ option_map root_at (answer (zero-add i j))) (ap (option_map root_at) (leaf-at (is_ghost r) root-of 0 (chart-of r) i no_sight inside))
      ∙ by (is_ghost r s))
    where
      s : Sight
      s = get_or (chart-of r) i no_sight

      answer : ℕ → Option Leaf
      answer j = cond (is_ghost r s) (Some (leaf j (root-of s))) None

      by : (b : Bool) → option_map root_at (cond b (Some (leaf i (root-of s))) None) ≡ cond b (Some (root-of s)) None
      by true = refl
      by false = refl

  home-is : (r : ℕ) → r < n → (i : ℕ) → i < length (chart-of r) → home forest r i ≡ at-owner (point_of (get_or (chart-of r) i no_sight))
  home-is r low i inside = ap (λ (o : Option (ℕ × ℕ)). unwrap_or {T = ℕ × ℕ} o (r, i)) (root-is r low i inside) ∙ go (owner m a (point_of s) == r) refl
    where
      s : Sight
      s = get_or (chart-of r) i no_sight

      go : (b : Bool) → (owner m a (point_of s) == r) ≡ b → unwrap_or {T = ℕ × ℕ} (cond (not b) (Some (root-of s)) None) (r, i) ≡ at-owner (point_of s)
      go false e = owner-place (point_of s) (point-in r i inside)
      go true e =
          let mine : owner m a (point_of s) ≡ r = eqb-true (owner m a (point_of s)) r e in
          let place : place_in (chart-of r) (point_of s) ≡ i = place-is (point_of s) (chart-of r) no_sight (own-differ m (assigned m a r) dim) i inside (shows-own s) in
          (λ j. (r, sym place j)) ∙ ap (λ o. (o, place_in (chart-of o) (point_of s))) (sym mine)

  -- at each place stands the weight of its point
  pub words-add_up : (r : ℕ) → r < n → (i : ℕ) → i < length (chart-of r) → sum_at forest words (home forest r i) ≡ weight m (point_of (get_or (chart-of r) i no_sight))
  words-add_up r low i inside = ap (sum_at forest words) (home-is r low i inside) ∙ point-sum (point_of (get_or (chart-of r) i no_sight)) (point-in r i inside)

  -- ---- no sum is too great

  module _ (few_cells : length m.cells ≤ 250000) where
    -- a rank's weight of a point
    at-rank-low : (r : ℕ) (p : Point) → at-rank r p ≤ 250000 * 250000
    unfolding assigned
    at-rank-low r p =
        let step : ℕ × Cell → ℕ = λ (c : ℕ × Cell). c.0 + 1 in
        let inner = sum-filter-le (λ (c : ℕ × Cell). contains c.1 p) step (assigned m a r) in
        let outer = sum-filter-le (λ c. rank_of a c == r) step (placed_cells m) in
        let each = sum-bound step 250000 (placed_cells m) (enumerated-low 0 m.cells 250000 (let few = few_cells in omega arith)) in
        let count = length-enumerate_from 0 m.cells in
        let cap : length (placed_cells m) * 250000 ≤ 250000 * 250000 = mul-le (length (placed_cells m)) 250000 250000 250000 (let few = few_cells in omega arith) (omega arith) in
        omega arith

    -- the words
    word-low : (r i : ℕ) → word_at words r i ≤ 250000 * 250000
    unfolding rank_weights
    word-low r i = all-or (λ w. w ≤ 250000 * 250000) (get_or words r []) i 0
        (all-or (AllByRecursion (λ w. w ≤ 250000 * 250000)) words r []
        (all_map (AllByRecursion (λ w. w ≤ 250000 * 250000)) (λ q. own_weights m (assigned m a q)) (below n) (all_from _ (λ q. all_map (λ w. w ≤ 250000 * 250000) (λ (s : Sight). at-rank q (point_of s)) (chart-of q) (all_from _ (λ s. at-rank-low q (point_of s)) (chart-of q))) (below n)))
        tt) (omega arith)

    -- what a rank adds at a root
    adds-low : (root : ℕ × ℕ) (r : ℕ) → r < n → own_sum words root (r, leaves-of r) ≤ 250000 * 250000
    adds-low root r low = ⊎_elim
        (λ (w : (s : Sight) × (find (λ s. is_ghost r s && on-root root s) (chart-of r) ≡ Some s)).
        let s : Sight = w.0 in
        let both = and_parts (is_ghost r s) (on-root root s) (find-passes (λ s. is_ghost r s && on-root root s) (chart-of r) s w.1) in
        let places = and_parts ((root-of s).0 == root.0) ((root-of s).1 == root.1) both.1 in
        let first = eqb-true (root-of s).0 root.0 places.0 in
        let second = eqb-true (root-of s).1 root.1 places.1 in
        let inside = find-has (λ s. in_some (point_of s) (placed_cells m) ≡ true) (λ s. is_ghost r s && on-root root s) (chart-of r) s (chart-in r) w.1 in
        let same : root ≡ at-owner (point_of s) = (λ i. (sym first i, sym second i)) ∙ owner-place (point_of s) inside in
        let adds = rank-adds r low (point_of s) inside in
        subst (λ x. own_sum words x (r, leaves-of r) ≤ 250000 * 250000) (sym same) (subst (λ k. k ≤ 250000 * 250000) (sym adds) (either (owner m a (point_of s) == r) (at-rank r (point_of s)) (at-rank-low r (point_of s)))))
        (λ none. let zero-sum = sum-zeros (λ s. cond (is_ghost r s && on-root root s) (at-rank r (point_of s)) 0) (chart-of r) (all_weaker (λ s. (is_ghost r s && on-root root s) ≡ false) (λ s. cond (is_ghost r s && on-root root s) (at-rank r (point_of s)) 0 ≡ 0) (λ s e. ap (λ b. cond b (at-rank r (point_of s)) 0) e) (chart-of r) (each_fails (λ s. is_ghost r s && on-root root s) (chart-of r) none)) in
        subst (λ k. k ≤ 250000 * 250000) (sym (rank-sums r low root ∙ zero-sum)) (omega arith))
        (find-cases (λ s. is_ghost r s && on-root root s) (chart-of r))
      where
        either : (b : Bool) (x : ℕ) → x ≤ 250000 * 250000 → cond b 0 x ≤ 250000 * 250000
        either true x h = omega arith
        either false x h = h

    -- the sums over copies are words
    pub sums-fit : n ≤ 64 → SumsFit forest words
    unfolding sum_at
    sums-fit few rank index =
        let root : ℕ × ℕ = (rank, index) in
        let word = word-low rank index in
        let listed = ap (sum_by (own_sum words root)) leaves-listed ∙ sum-map (own_sum words root) (λ r. (r, leaves-of r)) (below n) in
        let bound = sum-bound (λ r. own_sum words root (r, leaves-of r)) (250000 * 250000) (below n) (all_weaker (λ r. r < n) (λ r. own_sum words root (r, leaves-of r) ≤ 250000 * 250000) (λ r h. adds-low root r h) (below n) (below-all n)) in
        let count = length-below n in
        let cap : length (below n) * (250000 * 250000) ≤ 64 * (250000 * 250000) = mul-le (length (below n)) (250000 * 250000) 64 (250000 * 250000) (omega arith) (omega arith) in
        omega arith
