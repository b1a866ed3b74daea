use Rattle.std.proofs.Common.{◌≡◌, sym, ◌∙◌, subst, ap}
use Rattle.std.specs.Prelude.{IfOk}
use Rattle.sf_defs.specs.Forest.{Forest}
use Rattle.rank_chart_laws.specs.meeting_laws.Sets.{forest_of_sets, AreRankCharts}
use Rattle.interp_share.proofs.point_meeting.Told.{may-meet, cells-few, forest-told}
use Rattle.interp_share.proofs.point_meeting.meeting.mesh_forest.Goals as goal

pub of-charts-requires : goal.of-charts-requires
of-charts-requires g c =
    let (m, dofs, a, n, is) = c.requires.mesh in
    record { told = c.requires.seen; few = cells-few c.args.scatter.now m dofs a n is }

pub shared_forest-requires : goal.shared_forest-requires
shared_forest-requires g c =
    let (m, dofs, a, n, is) = c.requires.mesh in
    subst AreRankCharts (sym c.of-charts.ensures) (may-meet c.args.scatter.now m dofs a n is)

pub returns-clause-forest : goal.returns-clause-forest
returns-clause-forest g c = λ m dofs a n is.
    subst (λ (x : Forest). IfOk c.shared_forest.result (λ f. f ≡ x)) (ap forest_of_sets c.of-charts.ensures ∙ forest-told c.args.scatter.now m dofs a n is) c.shared_forest.ensures.forest
