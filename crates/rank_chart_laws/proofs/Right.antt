-- The charts of ranks of a right mesh are right charts.
use Rattle.std.proofs.Common.{◌≡◌, ◌⊎◌, ℕ, zero, suc, ◌+◌, ◌*◌, ◌<◌, ◌≤◌, Bool, true, false, cond, not, ◌&&◌, ◌==◌, List, [], ◌∷◌, ◌++◌, map, length, get_or, sum_by, refl, sym, ap, ◌∙◌, inl, inr, ⊎_elim, arith}
use Rattle.std.specs.List.{list_any, AllByRecursion, filter}
use Rattle.std.proofs.lemmas.Bool.{and_from, eqb-true, eq-eqb, cases_lt}
use Rattle.std.proofs.lemmas.List.{length-map, length-append}
use Rattle.plain_lists.specs.Lists.{below, sorted}
use Rattle.plain_lists.proofs.Each.{all_weaker, all_both, all_from, all_map, all_filter, all_at, all_append}
use Rattle.plain_lists.proofs.Below.{below-all, length-below}
use Rattle.plain_lists.proofs.Filters.{filter_passing, map_same}
use Rattle.plain_lists.proofs.Finding.{any_filter, none_passes, position_map, position_agree}
use Rattle.mesh_defs.specs.Mesh.{Mesh, Cell, placed_cells}
use Rattle.mesh_defs.specs.Points.{Sight, point_of, shows, contains}
use Rattle.mesh_defs.specs.RightMesh.{IsSoundMesh, CellsDiffer, in_some}
use Rattle.rank_defs.specs.Ranks.{IsAssignment, assigned, held_cells, owner}
use Rattle.rank_defs.specs.Spread.{own_chart}
use Rattle.rank_laws.proofs.Owning.{held-are_cells}
use Rattle.rank_laws.specs.share_laws.Charts.{vertex_point, own_charts}
use Rattle.rank_laws.specs.share_laws.Packed.{no_vertex}
use Rattle.rank_laws.proofs.share_laws.Owners.{owner-first, shown-by}
use Rattle.rank_chart_laws.specs.meeting_laws.Sets.{has_vertex, first_having, Rising, IsRankChart}
use Rattle.rank_chart_laws.proofs.meeting_laws.Lists.{passes_below}
use Rattle.rank_chart_laws.specs.OwnRanks.{own_vertices, own_middle, set_of, own_rank_chart, own_rank_charts}
use Rattle.std.proofs.lemmas.List.{map-append}
use Rattle.std.proofs.lemmas.List.Filters.{length-filter_both}
use Rattle.std.proofs.lemmas.List.FromFn.{length-enumerate_from}
use Rattle.std.proofs.lemmas.List.Sums.{sum_by_push}
use Rattle.plain_lists.proofs.Sorted.{all_sorted}
use Rattle.mesh_defs.specs.declared.Poly.{Poly}
use Rattle.mesh_defs.specs.declared.Poly.TheVariants.{Vertex, Segment, Triangle, Quad, Tet, Hex}
use Rattle.mesh_defs.specs.Tables.{dim_of, corner_count}
use Rattle.mesh_defs.specs.Points.{sights}
use Rattle.mesh_defs.specs.RightMesh.{IsRightMesh}
use Rattle.mesh_laws.proofs.Firsts.{firsts-all, firsts-length}
use Rattle.mesh_laws.proofs.Containing.{sights-contained}
use Rattle.rank_defs.specs.Ranks.{IsRightAssignment, rank_of}
use Rattle.rank_defs.specs.Spread.{own_stratum, point_forest}
use Rattle.rank_laws.proofs.Shapes.{HasShape}
use Rattle.rank_laws.proofs.Found.{length-sorted}
use Rattle.rank_laws.proofs.share_laws.Own.{own-of_dim}
use Rattle.rank_laws.proofs.share_laws.Vertices.{rank-vertices}
use Rattle.rank_chart_laws.specs.meeting_laws.Sets.{filled, point_count, IsSetOf, AreRankCharts, forest_of_sets}
use Rattle.rank_chart_laws.proofs.meeting_laws.Lists.{passes_at}
use Rattle.rank_chart_laws.proofs.Wholes.{own-sound}
use Rattle.rank_chart_laws.proofs.Lower.{shaped, forest-by_sets}
use Rattle.rank_chart_laws.proofs.Few.{vertices-few, sights-few}

-- ---- rising vertices

-- each number is above a bound, and each below the next
abbrev Above : ℕ → List ℕ → Type 0
Above n [] = Unit {0}
Above n (x ∷ xs) = (n ≤ x) × Above (x + 1) xs

above-at : (n : ℕ) (xs : List ℕ) (j : ℕ) → Above n xs → j < length xs → n ≤ get_or xs j 0
above-at n [] j h low = absurd (omega arith)
above-at n (x ∷ xs) zero h low = h.0
above-at n (x ∷ xs) (suc j) h low = let r = above-at (x + 1) xs j h.1 (omega arith) in omega (arith, h.0)

above-rises : (n : ℕ) (xs : List ℕ) → Above n xs → Rising xs
above-rises n [] h i j lt low = absurd (omega arith)
above-rises n (x ∷ xs) h zero zero lt low = absurd (omega arith)
above-rises n (x ∷ xs) h zero (suc j) lt low = let r = above-at (x + 1) xs j h.1 (omega arith) in omega arith
above-rises n (x ∷ xs) h (suc i) zero lt low = absurd (omega arith)
above-rises n (x ∷ xs) h (suc i) (suc j) lt low = above-rises (x + 1) xs h.1 i j (omega arith) (omega arith)

above-low : (n k : ℕ) (xs : List ℕ) → n ≤ k → Above k xs → Above n xs
above-low n k [] w h = tt
above-low n k (x ∷ xs) w h = (omega (arith, h.0), h.1)

above-chosen : (q : ℕ → Bool) (n : ℕ) (xs : List ℕ) → Above n xs → Above n (filter q xs)
above-chosen q n [] h = tt
above-chosen q n (x ∷ xs) h = go (q x) (above-chosen q (x + 1) xs h.1)
  where
    go : (b : Bool) → Above (x + 1) (filter q xs) → Above n (cond b (x ∷ filter q xs) (filter q xs))
    go true r = (h.0, r)
    go false r = above-low n (x + 1) (filter q xs) (omega (arith, h.0)) r

above-push : (n k : ℕ) (xs : List ℕ) → n ≤ k → AllByRecursion (λ x. x < k) xs → Above n xs → Above n (xs ++ k ∷ [])
above-push n k [] w l h = (w, tt)
above-push n k (x ∷ xs) w l h = (h.0, above-push (x + 1) k xs (omega (arith, l.0)) l.1 h.1)

above-below : (n : ℕ) → Above 0 (below n)
above-below zero = tt
above-below (suc n) = above-push 0 n (below n) (omega arith) (below-all n) (above-below n)

pub own-rising : (m : Mesh) (cells : List (ℕ × Cell)) → Rising (own_vertices m cells)
own-rising m cells = above-rises 0 (own_vertices m cells) (above-chosen (λ v. in_some (vertex_point v) cells) 0 (below (length m.at)) (above-below (length m.at)))

-- ---- owners

module _ (m : Mesh) (sound : IsSoundMesh m) (n : ℕ) (a : List ℕ) (parts : IsAssignment m n a) where
  -- a rank has a vertex just where its cells contain it
  pub vertex-had : (r v : ℕ) → v < length m.at → has_vertex v (own_rank_chart m a r) ≡ in_some (vertex_point v) (assigned m a r)
  unfolding own_rank_chart
  vertex-had r v low = any_filter (λ w. w == v) (λ w. in_some (vertex_point w) (assigned m a r)) (below (length m.at)) ∙ same (in_some (vertex_point v) (assigned m a r)) refl
    where
      same : (b : Bool) → in_some (vertex_point v) (assigned m a r) ≡ b → list_any (λ w. in_some (vertex_point w) (assigned m a r) && (w == v)) (below (length m.at)) ≡ b
      same true e = passes_below (λ w. in_some (vertex_point w) (assigned m a r) && (w == v)) (length m.at) v low (and_from (in_some (vertex_point v) (assigned m a r)) (v == v) e (eq-eqb v v refl))
      same false e = none_passes (λ w. in_some (vertex_point w) (assigned m a r) && (w == v)) (below (length m.at)) (all_from (λ w. (in_some (vertex_point w) (assigned m a r) && (w == v)) ≡ false) none (below (length m.at)))
        where
          none : (w : ℕ) → (in_some (vertex_point w) (assigned m a r) && (w == v)) ≡ false
          none w = go (w == v) refl
            where
              off : (b : Bool) → (b && false) ≡ false
              off true = refl
              off false = refl

              go : (b : Bool) → (w == v) ≡ b → (in_some (vertex_point w) (assigned m a r) && (w == v)) ≡ false
              go false f = ap (λ t. in_some (vertex_point w) (assigned m a r) && t) f ∙ off (in_some (vertex_point w) (assigned m a r))
              go true f = ap (λ t. t && (w == v)) (ap (λ u. in_some (vertex_point u) (assigned m a r)) (eqb-true w v f) ∙ e)

  -- the owner of a vertex is the first rank that has it
  pub vertex-owner : (v : ℕ) → v < length m.at → in_some (vertex_point v) (placed_cells m) ≡ true → owner m a (vertex_point v) ≡ first_having (own_rank_charts m a n) v
  unfolding own_charts own_rank_charts
  vertex-owner v low h = owner-first m n a sound parts (vertex_point v) h
      ∙ position_map (list_any (shows (vertex_point v))) (λ r. own_chart m (assigned m a r)) (below n)
      ∙ position_agree (λ r. list_any (shows (vertex_point v)) (own_chart m (assigned m a r))) (λ r. has_vertex v (own_rank_chart m a r)) (below n)
      (all_from (λ r. list_any (shows (vertex_point v)) (own_chart m (assigned m a r)) ≡ has_vertex v (own_rank_chart m a r)) (λ r. shown-by m n a sound parts r (vertex_point v) ∙ sym (vertex-had r v low)) (below n))
      ∙ sym (position_map (has_vertex v) (own_rank_chart m a) (below n))

  -- the vertices of a rank
  own-known : (r : ℕ) → AllByRecursion (λ v. (v < length m.at) × (in_some (vertex_point v) (assigned m a r) ≡ true)) (own_vertices m (assigned m a r))
  own-known r = all_both (λ v. v < length m.at) (λ v. in_some (vertex_point v) (assigned m a r) ≡ true) (λ v. (v < length m.at) × (in_some (vertex_point v) (assigned m a r) ≡ true)) (λ v x y. (x, y)) (own_vertices m (assigned m a r))
      (all_filter (λ v. v < length m.at) (λ v. in_some (vertex_point v) (assigned m a r)) (below (length m.at)) (below-all (length m.at))) (filter_passing (λ v. in_some (vertex_point v) (assigned m a r)) (below (length m.at)))

  pub own-owners : (r : ℕ) → map (λ v. owner m a (vertex_point v)) (own_vertices m (assigned m a r)) ≡ map (first_having (own_rank_charts m a n)) (own_vertices m (assigned m a r))
  unfolding held_cells
  own-owners r = map_same (λ v. owner m a (vertex_point v)) (first_having (own_rank_charts m a n)) (own_vertices m (assigned m a r))
      (all_weaker (λ v. (v < length m.at) × (in_some (vertex_point v) (assigned m a r) ≡ true)) (λ v. owner m a (vertex_point v) ≡ first_having (own_rank_charts m a n) v)
      (λ v k. vertex-owner v k.0 (held-are_cells m a r 0 (λ (c : ℕ × Cell). contains c.1 (vertex_point v)) k.1)) (own_vertices m (assigned m a r)) (own-known r))

-- ---- sets

-- what stands at a place, or nothing
at-most : (vs : List ℕ) (k : ℕ) → AllByRecursion (λ v. v < no_vertex) vs → get_or vs k no_vertex ≤ no_vertex
at-most [] k h = omega arith
at-most (v ∷ vs) zero h = omega (arith, h.0)
at-most (v ∷ vs) (suc k) h = at-most vs k h.1

past : (vs : List ℕ) (k d : ℕ) → length vs ≤ k → get_or vs k d ≡ d
past [] k d h = refl
past (v ∷ vs) zero d h = absurd (omega arith)
past (v ∷ vs) (suc k) d h = past vs k d (omega arith)

two-corners : (p : Poly) → (dim_of p ≡ 1) ⊎ (dim_of p ≡ 2) → 2 ≤ corner_count p
two-corners Vertex (inl h) = absurd (omega arith)
two-corners Vertex (inr h) = absurd (omega arith)
two-corners Segment h = omega arith
two-corners Triangle h = omega arith
two-corners Quad h = omega arith
two-corners Tet h = omega arith
two-corners Hex h = omega arith

module _ (m : Mesh) (sound : IsSoundMesh m) (differ : CellsDiffer m) (few : length m.at < no_vertex) (n : ℕ) (a : List ℕ) (parts : IsAssignment m n a) (r : ℕ) where
  -- a face or an edge that the cells of the rank see
  Middle : Sight → Type 0
  Middle s = ((dim_of s.poly ≡ 1) ⊎ (dim_of s.poly ≡ 2)) × ((HasShape s × AllByRecursion (λ v. v < length m.at) s.arrangement) × (in_some (point_of s) (assigned m a r) ≡ true))

  middle-stratum : (d : ℕ) → (d ≡ 1) ⊎ (d ≡ 2) → AllByRecursion Middle (own_stratum (assigned m a r) d)
  unfolding Middle
  middle-stratum d is = all_both (λ (s : Sight). dim_of s.poly ≡ d) Seen Middle (λ s e h. (⊎_elim (λ f. inl (e ∙ f)) (λ f. inr (e ∙ f)) is, h)) (own_stratum (assigned m a r) d) (own-of_dim m (assigned m a r) d)
      (firsts-all Seen (filter (λ s. dim_of s.poly == d) (sights (assigned m a r))) (all_filter Seen (λ s. dim_of s.poly == d) (sights (assigned m a r))
      (all_both (λ (s : Sight). HasShape s × AllByRecursion (λ v. v < length m.at) s.arrangement) (λ (s : Sight). in_some (point_of s) (assigned m a r) ≡ true) Seen (λ s x y. (x, y)) (sights (assigned m a r)) (shaped m sound few (assigned m a r) (own-sound m sound differ a r)) (sights-contained (assigned m a r)))))
    where
      Seen : Sight → Type 0
      Seen s = (HasShape s × AllByRecursion (λ v. v < length m.at) s.arrangement) × (in_some (point_of s) (assigned m a r) ≡ true)

  all-middle : AllByRecursion Middle (own_middle m (assigned m a r))
  all-middle = all_append Middle (cond (m.dim == 3) (own_stratum (assigned m a r) 2) []) (own_stratum (assigned m a r) 1) (faces (m.dim == 3)) (middle-stratum 1 (inl refl))
    where
      faces : (b : Bool) → AllByRecursion Middle (cond b (own_stratum (assigned m a r) 2) [])
      faces false = tt
      faces true = middle-stratum 2 (inr refl)

  middle-set : (s : Sight) → Middle s → IsSetOf (own_rank_chart m a r) (set_of s)
  unfolding Middle
  middle-set s (d, ((shape, range), here)) = record {
    four = refl;
    first = all_at (λ v. v < no_vertex) vs 0 no_vertex numbers (omega (arith, long, two-corners s.poly d));
    second = all_at (λ v. v < no_vertex) vs 1 no_vertex numbers (omega (arith, long, two-corners s.poly d));
    numbers = (at-most vs 0 numbers, (at-most vs 1 numbers, (at-most vs 2 numbers, (at-most vs 3 numbers, tt))));
    inside = (inside 0, (inside 1, (inside 2, (inside 3, tt))));
  }
    where
      vs : List ℕ
      vs = sorted s.arrangement

      long : length (sorted s.arrangement) ≡ corner_count s.poly
      long = length-sorted s.arrangement ∙ shape.corners

      in_range : AllByRecursion (λ v. v < length m.at) (sorted s.arrangement)
      in_range = all_sorted (λ v. v < length m.at) s.arrangement range

      numbers : AllByRecursion (λ v. v < no_vertex) (sorted s.arrangement)
      numbers = all_weaker (λ v. v < length m.at) (λ v. v < no_vertex) (λ v low. omega arith) (sorted s.arrangement) in_range

      inside : (k : ℕ) → (get_or (sorted s.arrangement) k no_vertex ≡ no_vertex) ⊎ (has_vertex (get_or (sorted s.arrangement) k no_vertex) (own_rank_chart m a r) ≡ true)
      inside k = ⊎_elim
          (λ (low : k < length (sorted s.arrangement)). inr (vertex-had m sound n a parts r (get_or (sorted s.arrangement) k no_vertex) (all_at (λ v. v < length m.at) (sorted s.arrangement) k no_vertex in_range low)
          ∙ rank-vertices m a sound r (point_of s) (get_or (sorted s.arrangement) k no_vertex) here (passes_at (λ w. w == get_or (sorted s.arrangement) k no_vertex) (sorted s.arrangement) no_vertex k low (eq-eqb (get_or (sorted s.arrangement) k no_vertex) (get_or (sorted s.arrangement) k no_vertex) refl))))
          (λ (high : length (sorted s.arrangement) ≤ k). inl (past (sorted s.arrangement) k no_vertex high)) (cases_lt k (length (sorted s.arrangement)))

  pub own-right : IsRankChart (own_rank_charts m a n) (own_rank_chart m a r)
  unfolding own_rank_chart
  own-right = record {
    owners = own-owners m sound n a parts r;
    rising = own-rising m (assigned m a r);
    numbers = all_weaker (λ v. (v < length m.at) × (in_some (vertex_point v) (assigned m a r) ≡ true)) (λ v. v < no_vertex) (λ v k. omega (arith, k.0)) (own_vertices m (assigned m a r)) (own-known m sound n a parts r);
    sets = all_map (IsSetOf (own_rank_chart m a r)) set_of (own_middle m (assigned m a r)) (all_weaker Middle (λ s. IsSetOf (own_rank_chart m a r) (set_of s)) middle-set (own_middle m (assigned m a r)) all-middle);
  }

-- ---- how many points there are

filter-short : {X : Type 0} (p : X → Bool) (xs : List X) → length (filter p xs) ≤ length xs
filter-short p xs = let e = length-filter_both p (λ x. not (p x)) (λ x. refl) xs in omega arith

module _ (m : Mesh) (a : List ℕ) (cells_few : length m.cells ≤ 250000) (vertices_few : length m.at ≤ 2000000) where
  stratum-few : (r d : ℕ) → length (own_stratum (assigned m a r) d) ≤ 19 * 250000
  unfolding assigned
  stratum-few r d =
      let f = firsts-length (filter (λ s. dim_of s.poly == d) (sights (assigned m a r))) in
      let g = filter-short (λ s. dim_of s.poly == d) (sights (assigned m a r)) in
      let h = sights-few (assigned m a r) in
      let k = filter-short (λ c. rank_of a c == r) (placed_cells m) in
      let l = length-enumerate_from 0 m.cells in
      omega arith

  middle-few : (r : ℕ) → length (own_middle m (assigned m a r)) ≤ 38 * 250000
  middle-few r = go (m.dim == 3)
    where
      go : (b : Bool) → length (cond b (own_stratum (assigned m a r) 2) [] ++ own_stratum (assigned m a r) 1) ≤ 38 * 250000
      go true = omega (arith, length-append (own_stratum (assigned m a r) 2) (own_stratum (assigned m a r) 1), stratum-few r 2, stratum-few r 1)
      go false = omega (arith, stratum-few r 1)

  rank-few : (r : ℕ) → point_count (own_rank_chart m a r) ≤ 11750000
  unfolding own_rank_chart assigned
  rank-few r =
      let e = length-append (map (λ v. filled (v ∷ [])) (own_vertices m (assigned m a r))) (map set_of (own_middle m (assigned m a r))) in
      let f = length-map (own_vertices m (assigned m a r)) (λ v. filled (v ∷ [])) in
      let g = length-map (own_middle m (assigned m a r)) set_of in
      let h = filter-short (λ v. in_some (vertex_point v) (assigned m a r)) (below (length m.at)) in
      let i = length-below (length m.at) in
      let j = middle-few r in
      let k = filter-short (λ c. rank_of a c == r) (placed_cells m) in
      let l = length-enumerate_from 0 m.cells in
      omega arith

  sum-few : (k : ℕ) → sum_by point_count (map (own_rank_chart m a) (below k)) ≤ k * 11750000
  sum-few zero = omega arith
  sum-few (suc k) =
      let e : sum_by point_count (map (own_rank_chart m a) (below (suc k))) ≡ sum_by point_count (map (own_rank_chart m a) (below k)) + point_count (own_rank_chart m a k) = ap (λ l. sum_by point_count l) (map-append (own_rank_chart m a) (below k) (k ∷ [])) ∙ sum_by_push point_count (map (own_rank_chart m a) (below k)) (own_rank_chart m a k) in
      let f = sum-few k in
      let g = rank-few k in
      omega arith

-- the charts of ranks of a right mesh are right
pub own-charts_right : (m : Mesh) (n : ℕ) (a : List ℕ) → IsRightMesh m → IsRightAssignment m n a → AreRankCharts (own_rank_charts m a n)
unfolding own_rank_charts
own-charts_right m n a right ranks =
    let at_few = vertices-few m right in
    let count = length-map (below n) (own_rank_chart m a) in
    let below_n = length-below n in
    let total = sum-few m a right.few_cells at_few n in
    record {
      some_rank = omega (arith, ranks.some_rank);
      few_ranks = omega (arith, ranks.few_ranks);
      few_points = omega (arith, ranks.few_ranks);
      each = all_map (IsRankChart (own_rank_charts m a n)) (own_rank_chart m a) (below n) (all_from (λ r. IsRankChart (own_rank_charts m a n) (own_rank_chart m a r)) (λ r. own-right m right.sound right.differ (omega arith) n a ranks.each r) (below n));
    }

-- and tell the forest of shared points
pub own-forest_by_sets : (m : Mesh) (n : ℕ) (a : List ℕ) → IsRightMesh m → IsRightAssignment m n a → point_forest m a (own_charts m a n) ≡ forest_of_sets (own_rank_charts m a n)
own-forest_by_sets m n a right ranks = let at_few = vertices-few m right in forest-by_sets m right.sound right.differ (omega arith) n a ranks.each
