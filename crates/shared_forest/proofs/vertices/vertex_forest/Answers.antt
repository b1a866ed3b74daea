use Rattle.std.proofs.Common.{◌≡◌, List, length, sym, subst, arith}
use Rattle.plain_lists.specs.Vectors.{lists_of}
use Rattle.sf_defs.specs.Forest.{Forest}
use Rattle.sf_graph.specs.Parts.{IsForRanks}
use Rattle.std.specs.Prelude.{IfOk}
use Rattle.rank_chart_laws.specs.meeting_laws.Sets.{RankChart}
use Rattle.rank_chart_laws.specs.meeting_laws.Steps.{ghost_leaves}
use Rattle.rank_chart_laws.proofs.meeting_laws.Loops.{made_below}
use Rattle.rank_chart_laws.proofs.meeting_laws.Bounds.{vertex-whole, vertex-forest-fits}
use Rattle.shared_forest.proofs.vertices.vertex_forest.Goals as goal

pub made_of-requires : goal.made_of-requires
made_of-requires g c = let charts : List RankChart = g.C.RankCharts.charts c.args.charts.now in
    let whole = vertex-whole charts c.in_ok-roots.roots.items (lists_of c.loop-rank.leaves.items) c.in_ok-roots.ensures (made_below (ghost_leaves (g.C.RankCharts.charts c.args.charts.now)) c.loop-rank.rank (length (g.C.RankCharts.charts c.args.charts.now)) (lists_of c.loop-rank.leaves.items) c.loop-rank.invariant (omega (arith, c.ranks-rank-end.ensures, c.loop-rank-test.false, c.loop-rank.auto.rank-end))) in
    subst IsForRanks (sym whole) (vertex-forest-fits charts c.requires)

pub returns : goal.returns
returns g c = let charts : List RankChart = g.C.RankCharts.charts c.args.charts.now in
    let whole = vertex-whole charts c.in_ok-roots.roots.items (lists_of c.loop-rank.leaves.items) c.in_ok-roots.ensures (made_below (ghost_leaves (g.C.RankCharts.charts c.args.charts.now)) c.loop-rank.rank (length (g.C.RankCharts.charts c.args.charts.now)) (lists_of c.loop-rank.leaves.items) c.loop-rank.invariant (omega (arith, c.ranks-rank-end.ensures, c.loop-rank-test.false, c.loop-rank.auto.rank-end))) in
    subst (λ (x : Forest). IfOk c.made_of.result (λ f. f ≡ x)) whole c.made_of.ensures
