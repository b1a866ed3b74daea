use Rattle.std.proofs.Common.{ap}
use Rattle.mesh_defs.specs.Mesh.{Section}
use Rattle.plex_base.specs.DataFields.{section_on}
use Rattle.dist_seed.proofs.Listing.{images-pushed}
use Rattle.dist_seed.proofs.sections.sections_of.Goals as goal

pub loop-i-preserved : goal.loop-i-preserved
loop-i-preserved c =
    let f : Section = section_on c.field-on.result.0 c.field-on.result.1.now in
    images-pushed (λ (s : Section). (s.on, s.comps)) c.args.mesh.now.fields c.loop-i.i f c.loop-i.sections.items c.push.new.self.items (c.field-on.result.0, c.comps.result) c.field-on.ensures c.in_ok-push.ensures.items c.loop-i.invariant (ap (λ n. (c.field-on.result.0, n)) c.comps.ensures.comps)
