-- What is counted on a mesh that is spread over ranks: words of Copies, and the counts of the mesh once they are added up.
use Rattle.std.proofs.Common.{◌≡◌, ℕ, ◌+◌, ◌<◌, ◌≤◌, true, false, List, [], map, length, get_or, sum_by, Some, refl, sym, ap, ap₂, ◌∙◌, subst, arith}
use Rattle.std.specs.Prelude.{slice_get}
use Rattle.std.specs.List.{list_any}
use Rattle.std.proofs.lemmas.List.{length-map, get_or-map, ext_get_or}
use Rattle.std.proofs.lemmas.Option.{slice_get-get_or, slice_get_within}
use Rattle.plain_lists.specs.Lists.{below}
use Rattle.plain_lists.proofs.Below.{length-below, get_or-map-below, map-below-length}
use Rattle.plain_lists.proofs.Each.{all_from}
use Rattle.plain_lists.proofs.Filters.{map_same}
use Rattle.mesh_defs.specs.Mesh.{Mesh, placed_cells}
use Rattle.mesh_defs.specs.Points.{Point, Sight, point_of, shows, vertex_sight}
use Rattle.mesh_defs.specs.Diagram.{Diagram, chart, diagram}
use Rattle.mesh_defs.specs.Sights.{points_differ}
use Rattle.mesh_defs.specs.RightMesh.{IsRightMesh, AreCells, in_some}
use Rattle.sf_ops.specs.Asked.{AreRootValues, CoverLeaves}
use Rattle.sf_defs.specs.sums.Sums.{AreSums, SumsFit}
use Rattle.plex_chart.specs.Chart.{IsPlex}
use Rattle.rank_defs.specs.Ranks.{IsAssignment, assigned, held, held_cells}
use Rattle.rank_defs.specs.Spread.{LocalMesh, PlainDist, charts, plain_dist, local_mesh, point_forest}
use Rattle.rank_laws.proofs.ChartsClosed.{held-cells}
use Rattle.rank_laws.proofs.reach_laws.Charts.{chart-members, chart-differs}
use Rattle.rank_chart_laws.specs.OwnRanks.{own_vertices}
use Rattle.cells_at_vertices.specs.declared.counts.VertexCount.{VertexCount}
use Rattle.cells_at_vertices.specs.Counts.{cells_at, counts_of_rank, vertex_counts}
use Rattle.cells_at_vertices.specs.Own.{closure_counts, AreOwnCounts, IsOf}
use Rattle.cells_at_vertices.specs.Picked.{picked_at, picked_counts, AreAllPicked, AreForPoints}
use Rattle.cells_at_vertices.proofs.Copies.{words, totals, sums-fit, words-roots, words-leaves, sums-are}
use Rattle.cells_at_vertices.proofs.Contained.{cells_in, no_point, first-low, vertex-stands, cells-many, vertices-many, points-many, counts-contained, cells-of_ranks, cells-none, cells-few, cells-vertex, vertices-had}

module _ (d : PlainDist) (m : Mesh) (a : List ℕ) (n : ℕ) (is : IsOf d m a n) where
  abbrev right : IsRightMesh m
  right = is.dist.mesh

  abbrev parts : IsAssignment m n a
  parts = is.dist.assignment.each

  abbrev chart-of : ℕ → List Sight
  chart-of r = chart m (assigned m a r)

  -- how many of rank r's cells contain a point
  abbrev word : ℕ → Point → ℕ
  word r p = cells_in (assigned m a r) p

  abbrev local-of : ℕ → LocalMesh
  local-of r = local_mesh m is.dofs a (assigned m a r)

  some-one : {x y : LocalMesh} → Some x ≡ Some y → x ≡ y
  some-one e = cc e

  -- ---- what a distribution without overlap has

  points-are : d.points ≡ point_forest m a (map chart-of (below n))
  unfolding plain_dist charts held held_cells
  points-are = ap (λ (d : PlainDist). d.points) is.dist.value

  locals-are : d.locals ≡ map local-of (below n)
  unfolding plain_dist held_cells
  locals-are = ap (λ (d : PlainDist). d.locals) is.dist.value

  locals-many : length d.locals ≡ n
  locals-many = ap length locals-are ∙ (length-map (below n) local-of ∙ length-below n)

  local-at : (r : ℕ) → r < n → slice_get d.locals r ≡ Some (local-of r)
  local-at r low =
      ap (λ ls. slice_get ls r) locals-are
      ∙ (slice_get-get_or (map local-of (below n)) r (local-of r) (omega (arith, low, length-map (below n) local-of, length-below n))
      ∙ ap Some (get_or-map-below local-of n r (local-of r) low))

  abbrev diagram-of : ℕ → Diagram
  diagram-of r = diagram m (assigned m a r)

  diagram-is : (r : ℕ) → (local-of r).diagram ≡ diagram-of r
  unfolding local_mesh
  diagram-is r = refl

  keys-are : (r : ℕ) → (local-of r).keys ≡ map (λ (s : Sight). s.key) (chart-of r)
  unfolding local_mesh
  keys-are r = refl

  -- ---- the charts and the words are those of a sum over copies

  are : (r : ℕ) → AreCells m (assigned m a r)
  unfolding held_cells
  are r = held-cells m a r 0

  shown : (r : ℕ) (p : Point) → list_any (shows p) (chart-of r) ≡ in_some p (assigned m a r)
  shown r p = chart-members m (assigned m a r) right.sound (are r) p

  differ : (r : ℕ) → points_differ (chart-of r) ≡ true
  differ r = chart-differs m (assigned m a r) right.sound.dim

  absent : (r : ℕ) (p : Point) → in_some p (assigned m a r) ≡ false → word r p ≡ 0
  absent r p h = cells-none (assigned m a r) p h

  low-words : (r : ℕ) (p : Point) → word r p ≤ 250000
  low-words r p = cells-few m a r p right.few_cells

  abbrev rank-words : List (List ℕ)
  rank-words = words m n a parts chart-of shown differ word absent

  abbrev rank-totals : List (List ℕ)
  rank-totals = totals m n a parts chart-of shown differ word absent

  abbrev word-list : ℕ → List ℕ
  word-list r = map (λ (s : Sight). word r (point_of s)) (chart-of r)

  -- what the ranks count are these words
  own-are : (counts : List (List ℕ)) → AreOwnCounts d.locals (length d.locals) counts → counts ≡ rank-words
  own-are counts h = ext_get_or [] counts (map word-list (below n)) (h.many ∙ (locals-many ∙ sym (length-map (below n) word-list ∙ length-below n)))
      (λ r low.
      let within : r < n = omega (arith, low, h.many, locals-many) in
      let inside : r < length d.locals = omega (arith, within, locals-many) in
      h.each r (local-of r) inside (local-at r within)
      ∙ (ap closure_counts (diagram-is r)
      ∙ (counts-contained m a r right is.accepted (subst IsPlex (diagram-is r) (h.whole r (local-of r) inside (local-at r within)))
      ∙ sym (get_or-map-below word-list n r [] within))))

  -- so they may be added up
  pub own-roots : (counts : List (List ℕ)) → AreOwnCounts d.locals (length d.locals) counts → AreRootValues d.points counts
  own-roots counts h = coe 0 1 (j. AreRootValues (sym points-are j) (sym (own-are counts h) j)) (words-roots m n a parts chart-of shown differ word absent)

  pub own-leaves : (counts : List (List ℕ)) → AreOwnCounts d.locals (length d.locals) counts → CoverLeaves d.points counts
  own-leaves counts h = coe 0 1 (j. CoverLeaves (sym points-are j) (sym (own-are counts h) j)) (words-leaves m n a parts chart-of shown differ word absent)

  pub own-fit : (counts : List (List ℕ)) → AreOwnCounts d.locals (length d.locals) counts → SumsFit d.points counts
  own-fit counts h = coe 0 1 (j. SumsFit (sym points-are j) (sym (own-are counts h) j)) (sums-fit m n a parts chart-of shown differ word absent low-words is.dist.assignment.few_ranks)

  -- and the sums are the counts of all cells
  abbrev all-list : ℕ → List ℕ
  all-list r = map (λ (s : Sight). cells_in (placed_cells m) (point_of s)) (chart-of r)

  sums-at : (counts sums : List (List ℕ)) → AreOwnCounts d.locals (length d.locals) counts → AreSums d.points counts sums → sums ≡ map all-list (below n)
  sums-at counts sums h added =
      sums-are m n a parts chart-of shown differ word absent sums (coe 0 1 (j. AreSums (points-are j) (own-are counts h j) sums) added)
      ∙ map_same totals-of all-list (below n) (all_from (λ r. totals-of r ≡ all-list r) (λ r. map_same (λ (s : Sight). sum_by (λ q. word q (point_of s)) (below n)) (λ (s : Sight). cells_in (placed_cells m) (point_of s)) (chart-of r) (all_from _ (λ s. cells-of_ranks m n a (point_of s) parts) (chart-of r))) (below n))
    where
      totals-of : ℕ → List ℕ
      totals-of r = map (λ (s : Sight). sum_by (λ q. word q (point_of s)) (below n)) (chart-of r)

  sum-at : (counts sums : List (List ℕ)) → AreOwnCounts d.locals (length d.locals) counts → AreSums d.points counts sums → (r : ℕ) → r < n → get_or sums r [] ≡ all-list r
  sum-at counts sums h added r low = ap (λ l. get_or l r []) (sums-at counts sums h added) ∙ get_or-map-below all-list n r [] low

  pub sums-for_points : (counts sums : List (List ℕ)) → AreOwnCounts d.locals (length d.locals) counts → AreSums d.points counts sums → AreForPoints d.locals sums
  sums-for_points counts sums h added = record {
    many = ap length (sums-at counts sums h added) ∙ (length-map (below n) all-list ∙ (length-below n ∙ sym locals-many));
    each = λ r l e.
        let low : r < n = omega (arith, slice_get_within d.locals r l e, locals-many) in
        let same : local-of r ≡ l = some-one (sym (local-at r low) ∙ e) in
        ap length (sum-at counts sums h added r low) ∙ (length-map (chart-of r) (λ (s : Sight). cells_in (placed_cells m) (point_of s)) ∙ (sym (points-many m a r right) ∙ (ap (λ (x : Diagram). length x.points) (sym (diagram-is r)) ∙ ap (λ (l : LocalMesh). length l.diagram.points) same)));
  }

  -- ---- the vertices

  -- what stands at a vertex of a rank
  vertex-is : (r i : ℕ) → i < length (own_vertices m (assigned m a r)) → picked_at (local-of r) (all-list r) ((local-of r).diagram.cells + i) ≡ record { vertex = get_or (own_vertices m (assigned m a r)) i 0; cells = cells_at m (get_or (own_vertices m (assigned m a r)) i 0) }
  vertex-is r i low = λ j. record { vertex = key j; cells = count j }
    where
      v : ℕ
      v = get_or (own_vertices m (assigned m a r)) i 0

      p : ℕ
      p = length (assigned m a r) + i

      inside : p < length (chart-of r)
      inside = omega (arith, low, first-low m a r right)

      stands : get_or (chart-of r) p no_point ≡ vertex_sight v
      stands = vertex-stands m a r right i low

      place : (local-of r).diagram.cells + i ≡ p
      place = ap (λ k. k + i) (ap (λ (x : Diagram). x.cells) (diagram-is r) ∙ cells-many m a r right is.accepted)

      key : get_or (local-of r).keys ((local-of r).diagram.cells + i) 0 ≡ v
      key = ap₂ (λ ks k. get_or ks k 0) (keys-are r) place ∙ (get_or-map (λ (s : Sight). s.key) (chart-of r) p no_point 0 inside ∙ ap (λ (s : Sight). s.key) stands)

      count : get_or (all-list r) ((local-of r).diagram.cells + i) 0 ≡ cells_at m v
      count =
          ap (λ k. get_or (all-list r) k 0) place
          ∙ (get_or-map (λ (s : Sight). cells_in (placed_cells m) (point_of s)) (chart-of r) p no_point 0 inside
          ∙ (ap (λ s. cells_in (placed_cells m) (point_of s)) stands ∙ cells-vertex m v right))

  rank-picked : (r : ℕ) → picked_counts (local-of r) (all-list r) ≡ counts_of_rank m a r
  rank-picked r =
      ap (λ k. map (λ i. picked_at (local-of r) (all-list r) ((local-of r).diagram.cells + i)) (below k)) (ap (λ (x : Diagram). x.vertices) (diagram-is r) ∙ vertices-many m a r right is.accepted)
      ∙ (map-below-length (λ i. picked_at (local-of r) (all-list r) ((local-of r).diagram.cells + i)) counted (own_vertices m (assigned m a r)) 0 (vertex-is r)
      ∙ ap (map counted) (vertices-had m a r right))
    where
      counted : ℕ → VertexCount
      counted v = record { vertex = v; cells = cells_at m v }

  pub picked-are : (counts sums : List (List ℕ)) (picked : List (List VertexCount)) → AreOwnCounts d.locals (length d.locals) counts → AreSums d.points counts sums → AreAllPicked d.locals sums (length d.locals) picked → picked ≡ vertex_counts m a n
  picked-are counts sums picked h added all = ext_get_or [] picked (map (counts_of_rank m a) (below n)) (all.many ∙ (locals-many ∙ sym (length-map (below n) (counts_of_rank m a) ∙ length-below n)))
      (λ r low.
      let within : r < n = omega (arith, low, all.many, locals-many) in
      all.each r (local-of r) (omega (arith, within, locals-many)) (local-at r within)
      ∙ (ap (picked_counts (local-of r)) (sum-at counts sums h added r within)
      ∙ (rank-picked r ∙ sym (get_or-map-below (counts_of_rank m a) n r [] within))))
