use Rattle.rank_laws.proofs.layer_laws.Around.{cells-held}
use Rattle.rank_laws.proofs.layer_laws.holders_know_cells_at_vertices.Goals as goal

pub returns : goal.returns
returns c = cells-held
