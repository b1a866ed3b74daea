use Rattle.std.proofs.Common.{ℕ, List, length, Vec, Global, ap, ◌∙◌, arith}
use Rattle.plain_lists.specs.Vectors.{lists_of}
use Rattle.rank_chart_laws.specs.meeting_laws.Sets.{RankChart}
use Rattle.rank_chart_laws.specs.meeting_laws.Steps.{candidates, meeting_ids, all_ids}
use Rattle.rank_chart_laws.proofs.meeting_laws.Loops.{lists_count, list_is, made_below}
use Rattle.shared_forest.proofs.forest.all_ids.Goals as goal

pub bounds-places-rank : goal.bounds-places-rank
bounds-places-rank g c = omega (arith, c.ranks-rank-end.ensures, c.loop-rank-test.true, lists_count c.args.places.now (candidates (g.C.RankCharts.charts c.args.charts.now)) (length (g.C.RankCharts.charts c.args.charts.now)) c.requires.places)

pub meeting_ids-requires-clause-places : goal.meeting_ids-requires-clause-places
meeting_ids-requires-clause-places g c = let charts : List RankChart = g.C.RankCharts.charts c.args.charts.now in c.deref.ensures.value ∙ ap (λ (v : Vec ℕ Global). v.items) c.index-places-rank.is ∙ list_is c.args.places.now (candidates charts) (length charts) c.requires.places c.loop-rank.rank c.index-places-rank.result (omega (arith, c.ranks-rank-end.ensures, c.loop-rank-test.true))

pub returns : goal.returns
unfolding all_ids
returns g c = made_below (meeting_ids (g.C.RankCharts.charts c.args.charts.now)) c.loop-rank.rank (length (g.C.RankCharts.charts c.args.charts.now)) (lists_of c.loop-rank.ids.items) c.loop-rank.invariant (omega (arith, c.ranks-rank-end.ensures, c.loop-rank-test.false, c.loop-rank.auto.rank-end))
