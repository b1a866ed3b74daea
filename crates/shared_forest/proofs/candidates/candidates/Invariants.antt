use Rattle.std.proofs.Common.{◌≡◌}
use Rattle.std.specs.List.{filter}
use Rattle.plain_lists.specs.Lists.{below}
use Rattle.rank_chart_laws.specs.meeting_laws.Sets.{chart_at}
use Rattle.rank_chart_laws.specs.meeting_laws.Steps.{may_share, set_at}
use Rattle.shared_forest.proofs.candidates.candidates.Given as goal

abbrev pub invariant-loop-k : goal.invariant-loop-k
invariant-loop-k g l = l.places.items ≡ filter (λ k. may_share (g.C.RankCharts.charts l.charts) l.rank (set_at (chart_at (g.C.RankCharts.charts l.charts) l.rank) k)) (below l.k)
