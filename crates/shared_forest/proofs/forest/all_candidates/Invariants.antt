use Rattle.std.proofs.Common.{◌≡◌, map}
use Rattle.plain_lists.specs.Lists.{below}
use Rattle.plain_lists.specs.Vectors.{lists_of}
use Rattle.rank_chart_laws.specs.meeting_laws.Steps.{candidates}
use Rattle.shared_forest.proofs.forest.all_candidates.Given as goal

abbrev pub invariant-loop-rank : goal.invariant-loop-rank
invariant-loop-rank g l = lists_of l.places.items ≡ map (candidates (g.C.RankCharts.charts l.charts)) (below l.rank)
