use Rattle.std.proofs.Common.{◌≡◌, map, get_or, []}
use Rattle.plain_lists.specs.Lists.{below}
use Rattle.plain_lists.specs.Vectors.{lists_of}
use Rattle.rank_chart_laws.specs.meeting_laws.Steps.{joined_leaves}
use Rattle.shared_forest.proofs.forest.joined_forest.Given as goal

abbrev pub invariant-loop-rank : goal.invariant-loop-rank
invariant-loop-rank g l = lists_of l.leaves.items ≡ map (λ r. joined_leaves (g.C.RankCharts.charts l.charts) r (get_or (lists_of l.met) r [])) (below l.rank)
