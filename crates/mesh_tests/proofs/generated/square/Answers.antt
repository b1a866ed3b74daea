use Rattle.std.proofs.Common.{ap, length}
use Rattle.mesh_defs.specs.Mesh.{Mesh}
use Rattle.input_defs.specs.Generated.{grid_points, grid_cells, cells_at, made}
use Rattle.mesh_tests.proofs.generated.square.Goals as goal

pub returns-clause-at : goal.returns-clause-at
unfolding made grid_points
returns-clause-at c = ap (λ (m : Mesh). length m.at) c.in_ok-mesh.ensures

pub returns-clause-cells : goal.returns-clause-cells
unfolding made grid_cells cells_at
returns-clause-cells c = ap (λ (m : Mesh). length m.cells) c.in_ok-mesh.ensures
