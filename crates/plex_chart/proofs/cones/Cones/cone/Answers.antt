use Rattle.std.proofs.Common.{ap}
use Rattle.mesh_defs.specs.Diagram.{Covering}
use Rattle.mesh_defs.specs.declared.Poly.TheVariants.{Vertex}
use Rattle.plex_chart.proofs.Flat.{LiesAt-view, point-view}
use Rattle.plex_chart.proofs.cones.Cones.cone.Goals as goal

pub entries_at-requires : goal.entries_at-requires
entries_at-requires c =
    rw (c.deref.ensures.value, c.deref-2.ensures.value)
    (LiesAt-view c.self.inside.polys.items c.self.inside.entries.items c.self.inside.ends.items c.args.self.now c.args.p c.self.invariant c.self.view_is c.requires)

pub returns : goal.returns
returns c =
    rw (c.entries_at.ensures, c.deref.ensures.value, c.deref-2.ensures.value)
    (ap (λ (point : Covering). point.covers) (point-view c.self.inside.polys.items c.self.inside.entries.items c.self.inside.ends.items c.args.self.now c.args.p Vertex c.self.invariant c.self.view_is c.requires))
