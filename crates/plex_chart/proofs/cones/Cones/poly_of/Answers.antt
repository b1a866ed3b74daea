use Rattle.std.proofs.Common.{ap, ◌∙◌, arith}
use Rattle.mesh_defs.specs.Diagram.{Covering}
use Rattle.plex_chart.proofs.Flat.{LiesAt-view, point-view}
use Rattle.plex_chart.proofs.cones.Cones.poly_of.Goals as goal

pub index-requires : goal.index-requires
index-requires c =
    let at = LiesAt-view c.self.inside.polys.items c.self.inside.entries.items c.self.inside.ends.items c.args.self.now c.args.p c.self.invariant c.self.view_is c.requires in
    omega (arith, at.place, c.self.invariant.each, c.self.inside.polys.ok.0)

pub returns : goal.returns
returns c =
    c.index.ensures
    ∙ ap (λ (point : Covering). point.poly) (point-view c.self.inside.polys.items c.self.inside.entries.items c.self.inside.ends.items c.args.self.now c.args.p c.index.result.now c.self.invariant c.self.view_is c.requires)
