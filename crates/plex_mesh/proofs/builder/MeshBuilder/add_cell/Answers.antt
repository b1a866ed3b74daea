use Rattle.std.proofs.Common.{◌<◌, length, sym, subst}
use Rattle.mesh_defs.specs.Mesh.{Mesh, Cell}
use Rattle.mesh_defs.specs.RightMesh.{IsSoundCell}
use Rattle.plex_mesh.specs.Right.{IsNewSet}
use Rattle.plex_mesh.specs.Meshes.{mesh_of}
use Rattle.plex_mesh.proofs.Right.{right-cell}
use Rattle.plex_mesh.proofs.builder.MeshBuilder.add_cell.Goals as goal

pub invariant_of-self-2 : goal.invariant_of-self-2
invariant_of-self-2 c =
    let cell : Cell = record { poly = c.args.poly; vertices = c.args.verts.now } in
    let few = subst (λ (m : Mesh). length m.cells < 250000) (sym c.self.view_is) c.requires.few in
    let sound = subst (λ (m : Mesh). IsSoundCell m cell) (sym c.self.view_is) c.requires.sound in
    let fresh = subst (λ (m : Mesh). IsNewSet m cell.vertices) (sym c.self.view_is) c.requires.fresh in
    rw c.in_ok-push.ensures.ok (right-cell (mesh_of c.self.inside.lists) cell c.self.invariant few sound fresh)
