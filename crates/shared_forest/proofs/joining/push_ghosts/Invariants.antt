use Rattle.std.proofs.Common.{◌≡◌, ◌+◌, ◌++◌, ◌==◌, not}
use Rattle.sf_defs.specs.Forest.{leaf}
use Rattle.rank_chart_laws.specs.meeting_laws.Sets.{chart_at}
use Rattle.rank_chart_laws.specs.meeting_laws.Steps.{chosen, owner_at, vertex_home}
use Rattle.shared_forest.proofs.joining.push_ghosts.Given as goal

abbrev pub invariant-loop-i : goal.invariant-loop-i
invariant-loop-i g l = l.leaves.items ≡ l.fn.leaves.items ++ chosen (λ i. not (owner_at (chart_at (g.C.RankCharts.charts l.charts) l.rank) i == l.rank)) (λ i. leaf ((chart_at (g.C.RankCharts.charts l.charts) l.rank).cells + i) (owner_at (chart_at (g.C.RankCharts.charts l.charts) l.rank) i, (chart_at (g.C.RankCharts.charts l.charts) (owner_at (chart_at (g.C.RankCharts.charts l.charts) l.rank) i)).cells + (vertex_home (g.C.RankCharts.charts l.charts) (chart_at (g.C.RankCharts.charts l.charts) l.rank) i).1)) l.i
