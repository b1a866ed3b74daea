use Rattle.std.proofs.Common.{List, length, sym, ap, ◌∙◌}
use Rattle.mesh_defs.specs.Diagram.{Covering}
use Rattle.plex_chart.proofs.Flat.{length-coverings}
use Rattle.plex_chart.proofs.cones.Cones.len.Goals as goal

pub returns : goal.returns
returns c =
    c.len.ensures
    ∙ c.self.inside.polys.ok.0
    ∙ sym (length-coverings c.self.inside.entries.items 0 c.self.inside.polys.items c.self.inside.ends.items c.self.invariant.each)
    ∙ ap (λ (points : List Covering). length points) c.self.view_is
