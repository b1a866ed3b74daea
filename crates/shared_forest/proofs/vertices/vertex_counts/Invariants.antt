use Rattle.std.proofs.Common.{◌≡◌, map, length}
use Rattle.plain_lists.specs.Lists.{below}
use Rattle.rank_chart_laws.specs.meeting_laws.Sets.{chart_at}
use Rattle.shared_forest.proofs.vertices.vertex_counts.Given as goal

abbrev pub invariant-loop-rank : goal.invariant-loop-rank
invariant-loop-rank g l = l.counts.items ≡ map (λ r. length (chart_at (g.C.RankCharts.charts l.charts) r).vertices) (below l.rank)
