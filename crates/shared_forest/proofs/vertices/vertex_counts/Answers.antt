use Rattle.std.proofs.Common.{length, arith}
use Rattle.rank_chart_laws.specs.meeting_laws.Sets.{RankChart}
use Rattle.rank_chart_laws.proofs.meeting_laws.Bounds.{of-charts}
use Rattle.shared_forest.proofs.vertices.vertex_counts.Goals as goal

pub returns : goal.returns
returns g c = of-charts (g.C.RankCharts.charts c.args.charts.now) (λ (d : RankChart). length d.vertices) c.loop-rank.rank c.loop-rank.counts.items c.loop-rank.invariant (omega (arith, c.ranks-rank-end.ensures, c.loop-rank-test.false, c.loop-rank.auto.rank-end))
