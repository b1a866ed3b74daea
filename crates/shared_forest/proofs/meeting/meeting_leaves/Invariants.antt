use Rattle.std.proofs.Common.{◌≡◌, map, get_or}
use Rattle.plain_lists.specs.Lists.{below}
use Rattle.sf_defs.specs.Forest.{leaf}
use Rattle.rank_chart_laws.specs.meeting_laws.Sets.{chart_at}
use Rattle.rank_chart_laws.specs.meeting_laws.Steps.{meeting_place, set_at, candidates}
use Rattle.shared_forest.proofs.meeting.meeting_leaves.Given as goal

abbrev pub invariant-loop-j : goal.invariant-loop-j
invariant-loop-j g l = l.leaves.items ≡ map (λ j. leaf j (meeting_place (g.C.RankCharts.charts l.charts) l.rank (set_at (chart_at (g.C.RankCharts.charts l.charts) l.rank) (get_or (candidates (g.C.RankCharts.charts l.charts) l.rank) j 0)))) (below l.j)
