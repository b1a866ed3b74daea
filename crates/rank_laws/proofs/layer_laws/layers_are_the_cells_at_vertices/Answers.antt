use Rattle.rank_laws.proofs.layer_laws.Around.{layer-around}
use Rattle.rank_laws.proofs.layer_laws.layers_are_the_cells_at_vertices.Goals as goal

pub returns : goal.returns
returns c = layer-around
