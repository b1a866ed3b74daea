use Rattle.rank_laws.proofs.layer_laws.Around.{vertices-here}
use Rattle.rank_laws.proofs.layer_laws.charts_have_the_vertices_of_their_cells.Goals as goal

pub returns : goal.returns
returns c = vertices-here
