use Rattle.std.proofs.Common.{◌+◌, ◌<◌, ◌^◌, length, sym, subst, rules}
use Rattle.mesh_defs.specs.Mesh.{Mesh}
use Rattle.plex_mesh.specs.Meshes.{mesh_of}
use Rattle.plex_mesh.proofs.Right.{right-vertex}
use Rattle.plex_mesh.proofs.builder.MeshBuilder.add_vertex.Goals as goal

pub invariant_of-self-2 : goal.invariant_of-self-2
invariant_of-self-2 c =
    let few = subst (λ (m : Mesh). length m.at + 1 < 2 ^ 32) (sym c.self.view_is) c.requires in
    rw c.in_ok-push.ensures.items (right-vertex (mesh_of c.self.inside.lists) c.args.at c.self.invariant (search rules) few)
