-- The charts of what ranks are given and see are those of the mesh.
use Rattle.std.proofs.Common.{◌≡◌, ℕ, ◌^◌, ◌<◌, List, [], map, length, get_or, sym, ap, ◌∙◌, subst, arith}
use Rattle.std.specs.List.{AllByRecursion}
use Rattle.std.proofs.lemmas.List.{get_or-map, length-map}
use Rattle.plain_lists.specs.Lists.{below}
use Rattle.plain_lists.proofs.Each.{all_weaker, all_from}
use Rattle.plain_lists.proofs.Filters.{map_map_same}
use Rattle.mesh_defs.specs.Mesh.{Mesh}
use Rattle.local_points.specs.Cells.{AreFit}
use Rattle.rank_defs.specs.Ranks.{assigned}
use Rattle.rank_defs.specs.Spread.{ScatterPart, PlainScatter, scatter_part, plain_scatter, point_forest, IsScatter}
use Rattle.rank_laws.specs.share_laws.Charts.{own_charts}
use Rattle.rank_chart_laws.specs.meeting_laws.Sets.{RankChart, no_chart, chart_at, forest_of_sets, AreRankCharts}
use Rattle.rank_chart_laws.specs.OwnRanks.{set_of, own_rank_chart, own_rank_charts}
use Rattle.rank_chart_laws.proofs.Given.{rank-vertices, rank-owners}
use Rattle.rank_chart_laws.proofs.Right.{own-charts_right, own-forest_by_sets}
use Rattle.dist_state.specs.scatter_state.Whole.{part_at}
use Rattle.interp_share.specs.rank_points.Seen.{Seen, seen_of, all_seen}
use Rattle.interp_share.proofs.rank_points.Own.{middle-own, parts-fit}
use Rattle.interp_share.specs.point_meeting.Charts.{chart_of, charts_of}

-- as many charts as parts, and each is that of its part
charts-count : (parts : List ScatterPart) → length (charts_of parts) ≡ length parts
charts-count parts = length-map parts chart_of

chart-there : (parts : List ScatterPart) (r : ℕ) → r < length parts → chart_at (charts_of parts) r ≡ chart_of (part_at parts r)
chart-there parts r low = get_or-map chart_of parts r (part_at [] 0) no_chart low

-- seen from outside
module _ (parts : List ScatterPart) (charts : List RankChart) (view : charts_of parts ≡ charts) where
  pub ranks-same : length parts ≡ length charts
  ranks-same = sym (charts-count parts) ∙ ap length view

  pub rank-low : (r : ℕ) → r < length charts → r < length parts
  rank-low r low = let same = ranks-same in omega arith

  pub chart-seen : (r : ℕ) → r < length charts → chart_of (part_at parts r) ≡ chart_at charts r
  chart-seen r low = sym (chart-there parts r (rank-low r low)) ∙ ap (λ cs. chart_at cs r) view

  -- what a rank sees gives its sets
  pub sets-seen : (seen : List Seen) → seen ≡ all_seen parts → (r : ℕ) → r < length charts → (get_or seen r (seen_of [])).sets ≡ (chart_at charts r).sets
  sets-seen seen are r low =
      ap (λ (l : List Seen). (get_or l r (seen_of [])).sets) are
      ∙ ap (λ (x : Seen). x.sets) (get_or-map (λ (part : ScatterPart). seen_of part.cells) parts r (part_at [] 0) (seen_of []) (rank-low r low))
      ∙ ap (λ (c : RankChart). c.sets) (chart-seen r low)

module _ (s : PlainScatter) (m : Mesh) (dofs : List (List ℕ)) (a : List ℕ) (n : ℕ) (is : IsScatter s m dofs a n) where
  -- the chart of a rank
  chart-is : (r : ℕ) → chart_of (scatter_part m a (assigned m a r)) ≡ own_rank_chart m a r
  unfolding own_rank_chart scatter_part seen_of
  chart-is r = λ i. record {
    cells = length (assigned m a r);
    vertices = sym (rank-vertices m a r is.mesh.sound) i;
    owners = sym (rank-owners m a r is.mesh.sound) i;
    sets = map set_of (middle-own m is.mesh a r i);
  }

  charts-are : charts_of s.parts ≡ own_rank_charts m a n
  unfolding own_rank_charts plain_scatter
  charts-are = ap (λ (t : PlainScatter). charts_of t.parts) is.value
      ∙ map_map_same chart_of (λ r. scatter_part m a (assigned m a r)) (own_rank_chart m a) (below n) (all_from (λ r. chart_of (scatter_part m a (assigned m a r)) ≡ own_rank_chart m a r) chart-is (below n))

  -- the ranks may meet
  pub may-meet : AreRankCharts (charts_of s.parts)
  may-meet = subst AreRankCharts (sym charts-are) (own-charts_right m n a is.mesh is.assignment)

  pub cells-few : AllByRecursion (λ (part : ScatterPart). length part.cells < 2 ^ 32) s.parts
  cells-few = all_weaker (λ (part : ScatterPart). AreFit part.cells) (λ (part : ScatterPart). length part.cells < 2 ^ 32) (λ part fit. omega (arith, fit.few)) s.parts (parts-fit s m dofs a n is)

  -- and their sets tell the forest of shared points
  pub forest-told : forest_of_sets (charts_of s.parts) ≡ point_forest m a (own_charts m a n)
  forest-told = ap forest_of_sets charts-are ∙ sym (own-forest_by_sets m n a is.mesh is.assignment)
