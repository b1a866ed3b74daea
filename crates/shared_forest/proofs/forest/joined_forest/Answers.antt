use Rattle.std.proofs.Common.{◌≡◌, ℕ, List, [], length, get_or, Vec, Global, sym, ap, ◌∙◌, subst, arith}
use Rattle.plain_lists.specs.Vectors.{lists_of}
use Rattle.sf_defs.specs.Forest.{Forest}
use Rattle.sf_graph.specs.Parts.{IsForRanks}
use Rattle.std.specs.Prelude.{IfOk}
use Rattle.rank_chart_laws.specs.meeting_laws.Sets.{RankChart}
use Rattle.rank_chart_laws.specs.meeting_laws.Steps.{candidates, joined_leaves}
use Rattle.rank_chart_laws.proofs.meeting_laws.Loops.{lists_count, list_is, list_at, shape_count, shape_at, made_below, lists_pushed}
use Rattle.rank_chart_laws.proofs.meeting_laws.Bounds.{joined-whole, joined-forest-fits}
use Rattle.shared_forest.proofs.forest.joined_forest.Goals as goal

pub bounds-places-rank : goal.bounds-places-rank
bounds-places-rank g c = omega (arith, c.ranks-rank-end.ensures, c.loop-rank-test.true, lists_count c.args.places.now (candidates (g.C.RankCharts.charts c.args.charts.now)) (length (g.C.RankCharts.charts c.args.charts.now)) c.requires.places)

pub bounds-met-rank : goal.bounds-met-rank
bounds-met-rank g c = omega (arith, c.ranks-rank-end.ensures, c.loop-rank-test.true, lists_count c.args.places.now (candidates (g.C.RankCharts.charts c.args.charts.now)) (length (g.C.RankCharts.charts c.args.charts.now)) c.requires.places, shape_count c.args.met.now c.args.places.now c.requires.shape)

pub joined_leaves-requires-clause-places : goal.joined_leaves-requires-clause-places
joined_leaves-requires-clause-places g c = let charts : List RankChart = g.C.RankCharts.charts c.args.charts.now in c.deref.ensures.value ∙ ap (λ (v : Vec ℕ Global). v.items) c.index-places-rank.is ∙ list_is c.args.places.now (candidates charts) (length charts) c.requires.places c.loop-rank.rank c.index-places-rank.result (omega (arith, c.ranks-rank-end.ensures, c.loop-rank-test.true))

pub joined_leaves-requires-clause-count : goal.joined_leaves-requires-clause-count
joined_leaves-requires-clause-count g c = let count = lists_count c.args.places.now (candidates (g.C.RankCharts.charts c.args.charts.now)) (length (g.C.RankCharts.charts c.args.charts.now)) c.requires.places in
    ap length (c.deref-in-loop-rank.ensures.value ∙ ap (λ (v : Vec ℕ Global). v.items) c.index-met-rank.is) ∙ shape_at c.args.met.now c.args.places.now c.requires.shape c.loop-rank.rank c.index-met-rank.result c.index-places-rank.result (omega (arith, c.ranks-rank-end.ensures, c.loop-rank-test.true)) ∙ ap length (sym (c.deref.ensures.value ∙ ap (λ (v : Vec ℕ Global). v.items) c.index-places-rank.is))

pub loop-rank-preserved : goal.loop-rank-preserved
loop-rank-preserved g c = let charts : List RankChart = g.C.RankCharts.charts c.args.charts.now in
    let count = lists_count c.args.places.now (candidates charts) (length charts) c.requires.places in
    let shape = shape_count c.args.met.now c.args.places.now c.requires.shape in
    let own = c.deref-in-loop-rank.ensures.value ∙ ap (λ (v : Vec ℕ Global). v.items) c.index-met-rank.is ∙ sym (list_at c.args.met.now c.loop-rank.rank c.index-met-rank.result (omega (arith, c.ranks-rank-end.ensures, c.loop-rank-test.true))) in
    lists_pushed (λ r. joined_leaves charts r (get_or (lists_of c.args.met.now) r [])) c.loop-rank.rank c.loop-rank.leaves.items c.push.new.self.items c.in_ok-joined_leaves.field-0 c.loop-rank.invariant (c.in_ok-joined_leaves.ensures ∙ ap (joined_leaves charts c.loop-rank.rank) own) c.in_ok-push.ensures.items

pub made_of-requires : goal.made_of-requires
made_of-requires g c = let charts : List RankChart = g.C.RankCharts.charts c.args.charts.now in
    let whole = joined-whole charts (lists_of c.args.met.now) c.in_ok-roots.roots.items (lists_of c.loop-rank.leaves.items) c.in_ok-roots.ensures (made_below (λ r. joined_leaves (g.C.RankCharts.charts c.args.charts.now) r (get_or (lists_of c.args.met.now) r [])) c.loop-rank.rank (length charts) (lists_of c.loop-rank.leaves.items) c.loop-rank.invariant (omega (arith, c.ranks-rank-end.ensures, c.loop-rank-test.false, c.loop-rank.auto.rank-end))) in
    subst IsForRanks (sym whole) (joined-forest-fits charts c.requires.right (lists_of c.args.met.now))

pub returns : goal.returns
returns g c = let charts : List RankChart = g.C.RankCharts.charts c.args.charts.now in
    let whole = joined-whole charts (lists_of c.args.met.now) c.in_ok-roots.roots.items (lists_of c.loop-rank.leaves.items) c.in_ok-roots.ensures (made_below (λ r. joined_leaves (g.C.RankCharts.charts c.args.charts.now) r (get_or (lists_of c.args.met.now) r [])) c.loop-rank.rank (length charts) (lists_of c.loop-rank.leaves.items) c.loop-rank.invariant (omega (arith, c.ranks-rank-end.ensures, c.loop-rank-test.false, c.loop-rank.auto.rank-end))) in
    subst (λ (x : Forest). IfOk c.made_of.result (λ f. f ≡ x)) whole c.made_of.ensures
