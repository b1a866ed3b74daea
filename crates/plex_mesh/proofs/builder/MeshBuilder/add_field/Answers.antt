use Rattle.std.proofs.Common.{sym, subst}
use Rattle.std.proofs.lemmas.List.{map-append}
use Rattle.mesh_defs.specs.Mesh.{Mesh}
use Rattle.plex_base.specs.DataFields.{section_on}
use Rattle.plex_mesh.specs.Right.{AreKnownRows}
use Rattle.plex_mesh.specs.Meshes.{mesh_of}
use Rattle.plex_mesh.proofs.Right.{right-field, right-section}
use Rattle.plex_mesh.proofs.builder.MeshBuilder.add_field.Goals as goal

pub invariant_of-self-2 : goal.invariant_of-self-2
invariant_of-self-2 c =
    let known = subst (λ (m : Mesh). AreKnownRows m c.args.on c.args.f.rows) (sym c.self.view_is) c.requires.rows in
    let m : Mesh = mesh_of c.self.inside.lists in
    rw (c.in_ok-push.ensures.items, map-append) (right-field m (section_on c.args.on c.args.f) c.self.invariant (right-section m c.args.on c.args.f c.requires.components known c.comps-comps.ensures.full))
