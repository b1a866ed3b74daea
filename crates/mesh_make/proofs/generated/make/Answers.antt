use Rattle.std.proofs.Common.{◌≤◌, [], length, sym, ap, ◌∙◌, subst}
use Rattle.mesh_defs.specs.Mesh.{Mesh}
use Rattle.mesh_defs.specs.RightMesh.{UsesVertices}
use Rattle.input_defs.specs.Generated.{made}
use Rattle.input_laws.proofs.made_laws.Made.{right-made}
use Rattle.mesh_make.proofs.generated.make.Goals as goal

pub add_points-requires-clause-start : goal.add_points-requires-clause-start
unfolding made
add_points-requires-clause-start c = c.new-builder.ensures ∙ ap (λ d. record { dim = d; at = []; cells = []; marks = []; names = []; fields = []; unused = 0; loose = 0; merged = 0 }) c.dim_of_kind.ensures

pub finish-requires-clause-some_cell : goal.finish-requires-clause-some_cell
finish-requires-clause-some_cell c = subst (λ (m : Mesh). 1 ≤ length m.cells) (sym c.in_ok-add_cells.ensures) (right-made c.args.kind c.args.n c.requires.some c.requires.few).some_cell

pub finish-requires-clause-used : goal.finish-requires-clause-used
finish-requires-clause-used c = subst UsesVertices (sym c.in_ok-add_cells.ensures) (right-made c.args.kind c.args.n c.requires.some c.requires.few).sound.used
