use Rattle.std.proofs.Common.{◌≡◌, map}
use Rattle.plain_lists.specs.Lists.{below}
use Rattle.rank_chart_laws.specs.meeting_laws.Sets.{chart_at, point_count}
use Rattle.shared_forest.proofs.forest.point_counts.Given as goal

abbrev pub invariant-loop-rank : goal.invariant-loop-rank
invariant-loop-rank g l = l.counts.items ≡ map (λ r. point_count (chart_at (g.C.RankCharts.charts l.charts) r)) (below l.rank)
