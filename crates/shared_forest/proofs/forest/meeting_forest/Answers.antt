use Rattle.std.proofs.Common.{◌≡◌, ℕ, List, length, Vec, Global, sym, ap, ◌∙◌, subst, arith}
use Rattle.plain_lists.specs.Vectors.{lists_of}
use Rattle.sf_defs.specs.Forest.{Forest}
use Rattle.sf_graph.specs.Parts.{IsForRanks}
use Rattle.std.specs.Prelude.{IfOk}
use Rattle.rank_chart_laws.specs.meeting_laws.Sets.{RankChart}
use Rattle.rank_chart_laws.specs.meeting_laws.Steps.{candidates, meeting_leaves}
use Rattle.rank_chart_laws.proofs.meeting_laws.Loops.{lists_count, list_is, made_below, lists_pushed}
use Rattle.rank_chart_laws.proofs.meeting_laws.Bounds.{meeting-whole, meeting-forest-fits}
use Rattle.shared_forest.proofs.forest.meeting_forest.Goals as goal

pub bounds-places-rank : goal.bounds-places-rank
bounds-places-rank g c = omega (arith, c.ranks-rank-end.ensures, c.loop-rank-test.true, lists_count c.args.places.now (candidates (g.C.RankCharts.charts c.args.charts.now)) (length (g.C.RankCharts.charts c.args.charts.now)) c.requires.places)

pub meeting_leaves-requires-clause-places : goal.meeting_leaves-requires-clause-places
meeting_leaves-requires-clause-places g c = let charts : List RankChart = g.C.RankCharts.charts c.args.charts.now in c.deref.ensures.value ∙ ap (λ (v : Vec ℕ Global). v.items) c.index-places-rank.is ∙ list_is c.args.places.now (candidates charts) (length charts) c.requires.places c.loop-rank.rank c.index-places-rank.result (omega (arith, c.ranks-rank-end.ensures, c.loop-rank-test.true))

pub loop-rank-preserved : goal.loop-rank-preserved
loop-rank-preserved g c = lists_pushed (meeting_leaves (g.C.RankCharts.charts c.args.charts.now)) c.loop-rank.rank c.loop-rank.leaves.items c.push.new.self.items c.in_ok-meeting_leaves.field-0 c.loop-rank.invariant c.in_ok-meeting_leaves.ensures c.in_ok-push.ensures.items

pub made_of-requires : goal.made_of-requires
made_of-requires g c = let charts : List RankChart = g.C.RankCharts.charts c.args.charts.now in
    let whole = meeting-whole charts c.in_ok-roots.roots.items (lists_of c.loop-rank.leaves.items) c.in_ok-roots.ensures (made_below (meeting_leaves (g.C.RankCharts.charts c.args.charts.now)) c.loop-rank.rank (length (g.C.RankCharts.charts c.args.charts.now)) (lists_of c.loop-rank.leaves.items) c.loop-rank.invariant (omega (arith, c.ranks-rank-end.ensures, c.loop-rank-test.false, c.loop-rank.auto.rank-end))) in
    subst IsForRanks (sym whole) (meeting-forest-fits charts c.requires.right)

pub returns : goal.returns
returns g c = let charts : List RankChart = g.C.RankCharts.charts c.args.charts.now in
    let whole = meeting-whole charts c.in_ok-roots.roots.items (lists_of c.loop-rank.leaves.items) c.in_ok-roots.ensures (made_below (meeting_leaves (g.C.RankCharts.charts c.args.charts.now)) c.loop-rank.rank (length (g.C.RankCharts.charts c.args.charts.now)) (lists_of c.loop-rank.leaves.items) c.loop-rank.invariant (omega (arith, c.ranks-rank-end.ensures, c.loop-rank-test.false, c.loop-rank.auto.rank-end))) in
    subst (λ (x : Forest). IfOk c.made_of.result (λ f. f ≡ x)) whole c.made_of.ensures
