-- What is in range where the charts are right, and what may be made a forest.
use Rattle.std.proofs.Common.{◌≡◌, ◌≢◌, ◌⊎◌, inl, inr, ℕ, zero, suc, ◌+◌, ◌^◌, ◌<◌, ◌≤◌, Bool, true, not, ◌==◌, List, [], ◌∷◌, map, length, get_or, take, sum, sum_by, refl, sym, ap, ◌∙◌, subst, arith, add-one, ap₂}
use Rattle.std.specs.List.{AllByRecursion, filter}
use Rattle.std.proofs.lemmas.List.{length-map, map-append, length-append, get_or-map}
use Rattle.std.proofs.lemmas.List.Filters.{length-filter_both}
use Rattle.std.proofs.lemmas.List.Sums.{sum_by-cons, sum_by_more, sum_by_push, sum-map, get_or-le-sum_by}
use Rattle.std.proofs.Math.Seq.{take-length}
use Rattle.plain_lists.specs.Lists.{below}
use Rattle.plain_lists.proofs.Below.{length-below, below-all, get_or-map-below, map-below-length}
use Rattle.plain_lists.proofs.Each.{all_at, all_map, all_from}
use Rattle.plain_lists.proofs.Filters.{map_map_same}
use Rattle.sf_defs.specs.declared.Leaf.{Leaf}
use Rattle.sf_defs.specs.Forest.{leaf, roots_on}
use Rattle.sf_graph.specs.Parts.{forest_of, IsForRanks}
use Rattle.sf_ops.specs.Asked.{CoverLeaves}
use Rattle.sf_defs.specs.meeting.Meeting.{HaveKeys}
use Rattle.rank_laws.specs.share_laws.Packed.{no_vertex, packed}
use Rattle.rank_chart_laws.specs.meeting_laws.Sets.{RankChart, no_chart, chart_at, point_count, has_vertex, IsSetOf, AreRankCharts}
use Rattle.rank_chart_laws.specs.meeting_laws.Steps.{chosen, vertex_place, vertex_at, owner_at, ghost_leaves, vertex_forest, may_share, set_at, candidates, meeting_place, vertex_home, point_id, behind, meeting_leaves, meeting_keys, meeting_ids, meeting_forest, all_keys, all_ids, joined_vertices, joined_sets, joined_leaves, joined_forest}
use Rattle.rank_chart_laws.proofs.meeting_laws.Homes.{single, owner-first, first-has, vertex-here, placed-vertex}

-- ---- lengths and sums

-- a choice is no longer than what it is made from
filter-short : {X : Type 0} (p : X → Bool) (xs : List X) → length (filter p xs) ≤ length xs
filter-short p xs = let e = length-filter_both p (λ x. not (p x)) (λ x. refl) xs in omega arith

pub chosen-short : {X : Type 0} (test : ℕ → Bool) (f : ℕ → X) (n : ℕ) → length (chosen test f n) ≤ n
chosen-short test f n = let e = length-map (filter test (below n)) f in let s = filter-short test (below n) in let l = length-below n in omega arith

-- a sum over the numbers below a length, each part at most that of the thing of this number
sum-upto : {X Y : Type 0} (f : Y → ℕ) (g : ℕ → Y) (h : X → ℕ) (xs : List X) (d : X) → ((r : ℕ) → r < length xs → f (g r) ≤ h (get_or xs r d)) → (n : ℕ) → n ≤ length xs → sum_by f (map g (below n)) ≤ sum_by h (take n xs)
sum-upto f g h xs d low zero w = omega arith
sum-upto f g h xs d low (suc n) w =
    let own = low n (omega arith) in
    let rest = sum-upto f g h xs d low n (omega arith) in
    let left : sum_by f (map g (below (suc n))) ≡ sum_by f (map g (below n)) + f (g n) = ap (λ l. sum_by f l) (map-append g (below n) (n ∷ [])) ∙ sum_by_push f (map g (below n)) (g n) in
    let right : sum_by h (take (suc n) xs) ≡ sum_by h (take n xs) + h (get_or xs n d) = ap (λ k. sum_by h (take k xs)) (sym (add-one n)) ∙ sum_by_more h xs n d (omega arith) in
    omega arith

sum-all : {X Y : Type 0} (f : Y → ℕ) (g : ℕ → Y) (h : X → ℕ) (xs : List X) (d : X) → ((r : ℕ) → r < length xs → f (g r) ≤ h (get_or xs r d)) → sum_by f (map g (below (length xs))) ≤ sum_by h xs
sum-all f g h xs d low = subst (λ l. sum_by f (map g (below (length xs))) ≤ sum_by h l) (take-length xs) (sum-upto f g h xs d low (length xs) (omega arith))

-- sums of less
sum-less : {X : Type 0} (f h : X → ℕ) → ((x : X) → f x ≤ h x) → (xs : List X) → sum_by f xs ≤ sum_by h xs
sum-less f h low [] = omega arith
sum-less f h low (x ∷ xs) = let own = low x in let rest = sum-less f h low xs in let a = sum_by-cons f x xs in let b = sum_by-cons h x xs in omega arith

-- ---- a chart

-- the number of points
pub count-is : (c : RankChart) → point_count c ≡ c.cells + (length c.vertices + length c.sets)
count-is c = let a = length-append (map single c.vertices) c.sets in let b = length-map c.vertices single in omega arith

module _ (charts : List RankChart) (right : AreRankCharts charts) where
  -- the points of a rank have numbers of 32 bits
  pub count-fits : (r : ℕ) → r < length charts → (chart_at charts r).cells + (length (chart_at charts r).vertices + length (chart_at charts r).sets) < 2 ^ 32
  count-fits r low = let e = count-is (chart_at charts r) in let s = get_or-le-sum_by point_count charts r no_chart low in omega (arith, right.few_points)

  -- the owner of a vertex is one of the ranks, and has it
  pub owner-has : (r i : ℕ) → r < length charts → i < length (chart_at charts r).vertices → (owner_at (chart_at charts r) i < length charts) × (has_vertex (vertex_at (chart_at charts r) i) (chart_at charts (owner_at (chart_at charts r) i)) ≡ true)
  owner-has r i low in_range =
      let first = first-has charts right r (vertex_at (chart_at charts r) i) low (vertex-here charts right r i in_range) in
      let owner = sym (owner-first charts right r i low in_range) in
      (subst (λ q. q < length charts) owner first.0, subst (λ q. has_vertex (vertex_at (chart_at charts r) i) (chart_at charts q) ≡ true) owner first.1)

  -- so it is for a vertex by itself
  pub owner-of : (r v : ℕ) → r < length charts → has_vertex v (chart_at charts r) ≡ true → (owner_at (chart_at charts r) (vertex_place v (chart_at charts r)) < length charts) × (has_vertex v (chart_at charts (owner_at (chart_at charts r) (vertex_place v (chart_at charts r)))) ≡ true)
  owner-of r v low h =
      let (in_range, same) = placed-vertex (chart_at charts r) v h in
      let both = owner-has r (vertex_place v (chart_at charts r)) low in_range in
      (both.0, subst (λ w. has_vertex w (chart_at charts (owner_at (chart_at charts r) (vertex_place v (chart_at charts r)))) ≡ true) same both.1)

  -- a vertex of a set is the rank's
  pub set-vertex : (r : ℕ) (s : List ℕ) (i : ℕ) → IsSetOf (chart_at charts r) s → i < 4 → get_or s i no_vertex ≢ no_vertex → has_vertex (get_or s i no_vertex) (chart_at charts r) ≡ true
  set-vertex r s i is low ne = go (all_at (λ v. (v ≡ no_vertex) ⊎ (has_vertex v (chart_at charts r) ≡ true)) s i no_vertex is.inside (omega (arith, is.four)))
    where
      go : (get_or s i no_vertex ≡ no_vertex) ⊎ (has_vertex (get_or s i no_vertex) (chart_at charts r) ≡ true) → has_vertex (get_or s i no_vertex) (chart_at charts r) ≡ true
      go (inl e) = absurd (ne e)
      go (inr t) = t

  -- ---- what may be made a forest

  vertices-few : sum (map (λ (c : RankChart). length c.vertices) charts) < 2 ^ 32
  vertices-few =
      let e = sum-map (λ (c : RankChart). length c.vertices) charts in
      let s = sum-less (λ (c : RankChart). length c.vertices) point_count (λ c. let n = count-is c in omega arith) charts in
      omega (arith, right.few_points)

  -- so many leaves on each rank
  leaves-few : (g : ℕ → List Leaf) → ((r : ℕ) → r < length charts → length (g r) ≤ point_count (chart_at charts r)) → sum_by length (map g (below (length charts))) < 2 ^ 32
  leaves-few g low = let s = sum-all length g point_count charts no_chart low in omega (arith, right.few_points)

  ranks-of : (g : ℕ → List Leaf) (roots : List ℕ) → length roots ≡ length charts → length (map g (below (length charts))) ≡ length roots
  ranks-of g roots e = length-map (below (length charts)) g ∙ length-below (length charts) ∙ sym e

  pub vertex-forest-fits : IsForRanks (vertex_forest charts)
  unfolding vertex_forest
  vertex-forest-fits = record {
    ranks = ranks-of (ghost_leaves charts) (map (λ (c : RankChart). length c.vertices) charts) (length-map charts (λ (c : RankChart). length c.vertices));
    some_rank = let e = length-map charts (λ (c : RankChart). length c.vertices) in omega (arith, right.some_rank);
    few_ranks = let e = length-map charts (λ (c : RankChart). length c.vertices) in omega (arith, right.few_ranks);
    few_roots = vertices-few;
    few_leaves = leaves-few (ghost_leaves charts) (λ r low. ghosts r (count-is (chart_at charts r)));
  }
    where
      ghosts : (r : ℕ) → point_count (chart_at charts r) ≡ (chart_at charts r).cells + (length (chart_at charts r).vertices + length (chart_at charts r).sets) → length (ghost_leaves charts r) ≤ point_count (chart_at charts r)
      ghosts r n =
          let a = length-map (filter (λ i. not (owner_at (chart_at charts r) i == r)) (below (length (chart_at charts r).vertices))) (λ i. leaf i (owner_at (chart_at charts r) i, vertex_place (vertex_at (chart_at charts r) i) (chart_at charts (owner_at (chart_at charts r) i)))) in
          let s = filter-short (λ i. not (owner_at (chart_at charts r) i == r)) (below (length (chart_at charts r).vertices)) in
          let l = length-below (length (chart_at charts r).vertices) in
          omega arith

  -- candidates are no more than sets
  pub candidates-few : (r : ℕ) → length (candidates charts r) ≤ length (chart_at charts r).sets
  candidates-few r = let s = filter-short (λ k. may_share charts r (set_at (chart_at charts r) k)) (below (length (chart_at charts r).sets)) in let l = length-below (length (chart_at charts r).sets) in omega arith

  pub meeting-length : (r : ℕ) → length (meeting_leaves charts r) ≡ length (candidates charts r)
  meeting-length r = length-map (below (length (candidates charts r))) (λ j. leaf j (meeting_place charts r (set_at (chart_at charts r) (get_or (candidates charts r) j 0)))) ∙ length-below (length (candidates charts r))

  pub meeting-forest-fits : IsForRanks (meeting_forest charts)
  unfolding meeting_forest
  meeting-forest-fits = record {
    ranks = ranks-of (meeting_leaves charts) (map (λ (c : RankChart). length c.vertices) charts) (length-map charts (λ (c : RankChart). length c.vertices));
    some_rank = let e = length-map charts (λ (c : RankChart). length c.vertices) in omega (arith, right.some_rank);
    few_ranks = let e = length-map charts (λ (c : RankChart). length c.vertices) in omega (arith, right.few_ranks);
    few_roots = vertices-few;
    few_leaves = leaves-few (meeting_leaves charts) (λ r low. let n = count-is (chart_at charts r) in let s = candidates-few r in let l = meeting-length r in omega arith);
  }

  pub joined-forest-fits : (met : List (List ℕ)) → IsForRanks (joined_forest charts met)
  unfolding joined_forest
  joined-forest-fits met = record {
    ranks = ranks-of (λ r. joined_leaves charts r (get_or met r [])) (map point_count charts) (length-map charts point_count);
    some_rank = let e = length-map charts point_count in omega (arith, right.some_rank);
    few_ranks = let e = length-map charts point_count in omega (arith, right.few_ranks);
    few_roots = let e = sum-map point_count charts in omega (arith, right.few_points);
    few_leaves = leaves-few (λ r. joined_leaves charts r (get_or met r [])) (λ r low. joined r);
  }
    where
      short : {X : Type 0} (test : ℕ → Bool) (f : ℕ → X) (n : ℕ) (xs : List X) → xs ≡ chosen test f n → length xs ≤ n
      short test f n xs e = subst (λ l. length l ≤ n) (sym e) (chosen-short test f n)

      joined : (r : ℕ) → length (joined_leaves charts r (get_or met r [])) ≤ point_count (chart_at charts r)
      joined r =
          let n = count-is (chart_at charts r) in
          let s = candidates-few r in
          let a = length-append (joined_vertices charts r) (joined_sets charts r (get_or met r [])) in
          let b = short _ _ (length (chart_at charts r).vertices) (joined_vertices charts r) refl in
          let d = short _ _ (length (candidates charts r)) (joined_sets charts r (get_or met r [])) refl in
          omega arith

  -- ---- keys and ids

  roots-count : length (map (λ (c : RankChart). length c.vertices) charts) ≡ length charts
  roots-count = length-map charts (λ (c : RankChart). length c.vertices)

  locals-low : (r : ℕ) → AllByRecursion (λ (l : Leaf). l.local < length (candidates charts r)) (meeting_leaves charts r)
  locals-low r = all_map (λ (l : Leaf). l.local < length (candidates charts r)) (λ j. leaf j (meeting_place charts r (set_at (chart_at charts r) (get_or (candidates charts r) j 0)))) (below (length (candidates charts r))) (below-all (length (candidates charts r)))

  pub keys-there : HaveKeys (meeting_forest charts) (all_keys charts)
  unfolding meeting_forest all_keys
  keys-there = record {
    ranks = length-map (below (length charts)) (meeting_keys charts) ∙ length-below (length charts) ∙ sym roots-count;
    places = λ rank low. let in_range : rank < length charts = omega (arith, roots-count) in
        subst (λ ls. AllByRecursion (λ (l : Leaf). l.local < length (get_or (map (meeting_keys charts) (below (length charts))) rank [])) ls) (sym (get_or-map-below (meeting_leaves charts) (length charts) rank [] in_range))
        (subst (λ n. AllByRecursion (λ (l : Leaf). l.local < n) (meeting_leaves charts rank)) (sym (ap (λ l. length l) (get_or-map-below (meeting_keys charts) (length charts) rank [] in_range) ∙ length-map (candidates charts rank) (λ k. packed (set_at (chart_at charts rank) k)))) (locals-low rank));
  }

  pub ids-there : CoverLeaves (meeting_forest charts) (all_ids charts)
  unfolding meeting_forest all_ids
  ids-there = record {
    ranks = length-map (below (length charts)) (meeting_ids charts) ∙ length-below (length charts) ∙ sym roots-count;
    places = λ rank low. let in_range : rank < length charts = omega (arith, roots-count) in
        subst (λ ls. AllByRecursion (λ (l : Leaf). l.local < length (get_or (map (meeting_ids charts) (below (length charts))) rank [])) ls) (sym (get_or-map-below (meeting_leaves charts) (length charts) rank [] in_range))
        (subst (λ n. AllByRecursion (λ (l : Leaf). l.local < n) (meeting_leaves charts rank)) (sym (ap (λ l. length l) (get_or-map-below (meeting_ids charts) (length charts) rank [] in_range) ∙ length-map (candidates charts rank) (λ k. point_id rank (behind (chart_at charts rank) k)))) (locals-low rank));
  }

  -- ---- what is looked up

  pub vertex-roots : length (vertex_forest charts).roots ≡ length charts
  unfolding vertex_forest
  vertex-roots = roots-count

  pub vertex-roots_on : (r : ℕ) → r < length charts → roots_on (vertex_forest charts) r ≡ length (chart_at charts r).vertices
  unfolding vertex_forest
  vertex-roots_on r low = get_or-map (λ (c : RankChart). length c.vertices) charts r no_chart 0 low

  -- where a set meets, from the owner of its first vertex and the place there
  pub place-from : (r : ℕ) (s : List ℕ) (v owner index : ℕ) → r < length charts → IsSetOf (chart_at charts r) s → v ≡ get_or s 0 no_vertex → owner ≡ owner_at (chart_at charts r) (vertex_place v (chart_at charts r)) → index ≡ vertex_place v (chart_at charts owner)
      → ◌≡◌ {A = ℕ × ℕ} (owner, index) (meeting_place charts r s)
  unfolding meeting_place
  place-from r s v owner index low is e o i =
      let has : has_vertex v (chart_at charts r) ≡ true = subst (λ w. has_vertex w (chart_at charts r) ≡ true) (sym e) (set-vertex r s 0 is (omega arith) (λ same. let first = is.first in absurd (omega arith))) in
      let same : v ≡ vertex_at (chart_at charts r) (vertex_place v (chart_at charts r)) = sym (placed-vertex (chart_at charts r) v has).1 in
      let there : index ≡ vertex_place (vertex_at (chart_at charts r) (vertex_place v (chart_at charts r))) (chart_at charts (owner_at (chart_at charts r) (vertex_place v (chart_at charts r)))) = i ∙ ap₂ (λ w p. vertex_place w (chart_at charts p)) same o in
      let home : ◌≡◌ {A = ℕ × ℕ} (owner, index) (vertex_home charts (chart_at charts r) (vertex_place v (chart_at charts r))) = λ k. (o k, there k) in
      home ∙ ap (λ w. vertex_home charts (chart_at charts r) (vertex_place w (chart_at charts r))) e

  -- a set's vertices are the rank's, and stand at their owners
  pub first-vertex : (r : ℕ) (s : List ℕ) (v : ℕ) → r < length charts → IsSetOf (chart_at charts r) s → v ≡ get_or s 0 no_vertex → has_vertex v (chart_at charts r) ≡ true
  first-vertex r s v low is e = subst (λ w. has_vertex w (chart_at charts r) ≡ true) (sym e) (set-vertex r s 0 is (omega arith) (λ same. let first = is.first in absurd (omega arith)))

-- ---- what was made, piece by piece

module _ (charts : List RankChart) where
  pub vertex-whole : (roots : List ℕ) (leaves : List (List Leaf)) → roots ≡ map (λ (c : RankChart). length c.vertices) charts → leaves ≡ map (ghost_leaves charts) (below (length charts)) → forest_of roots leaves ≡ vertex_forest charts
  unfolding vertex_forest
  vertex-whole roots leaves e h = λ i. record { roots = e i; leaves = h i }

  pub meeting-whole : (roots : List ℕ) (leaves : List (List Leaf)) → roots ≡ map (λ (c : RankChart). length c.vertices) charts → leaves ≡ map (meeting_leaves charts) (below (length charts)) → forest_of roots leaves ≡ meeting_forest charts
  unfolding meeting_forest
  meeting-whole roots leaves e h = λ i. record { roots = e i; leaves = h i }

  pub joined-whole : (met : List (List ℕ)) (roots : List ℕ) (leaves : List (List Leaf)) → roots ≡ map point_count charts → leaves ≡ map (λ r. joined_leaves charts r (get_or met r [])) (below (length charts)) → forest_of roots leaves ≡ joined_forest charts met
  unfolding joined_forest
  joined-whole met roots leaves e h = λ i. record { roots = e i; leaves = h i }

  -- what is made of each rank's chart
  pub of-charts : (f : RankChart → ℕ) (n : ℕ) (made : List ℕ) → made ≡ map (λ r. f (chart_at charts r)) (below n) → n ≡ length charts → made ≡ map f charts
  of-charts f n made e end = e ∙ ap (λ k. map (λ r. f (chart_at charts r)) (below k)) end ∙ map-below-length (λ r. f (chart_at charts r)) f charts no_chart (λ k low. refl)

  -- there is an id for each candidate
  pub ids-shape : map length (all_ids charts) ≡ map length (map (candidates charts) (below (length charts)))
  unfolding all_ids
  ids-shape = map_map_same length (meeting_ids charts) (λ r. length (candidates charts r)) (below (length charts)) (all_from (λ r. length (meeting_ids charts r) ≡ length (candidates charts r)) (λ r. length-map (candidates charts r) (λ k. point_id r (behind (chart_at charts r) k))) (below (length charts)))
      ∙ sym (map_map_same length (candidates charts) (λ r. length (candidates charts r)) (below (length charts)) (all_from (λ r. length (candidates charts r) ≡ length (candidates charts r)) (λ r. refl) (below (length charts))))
