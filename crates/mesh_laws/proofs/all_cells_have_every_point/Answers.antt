use Rattle.mesh_laws.proofs.Containing.{chart-all}
use Rattle.mesh_laws.proofs.all_cells_have_every_point.Goals as goal

pub returns : goal.returns
returns c = chart-all
