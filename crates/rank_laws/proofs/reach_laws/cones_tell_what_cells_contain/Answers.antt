use Rattle.rank_laws.proofs.reach_laws.Cells.{cell-reaches_points, rank-reaches}
use Rattle.rank_laws.proofs.reach_laws.cones_tell_what_cells_contain.Goals as goal

pub returns-clause-some_cells : goal.returns-clause-some_cells
returns-clause-some_cells c = λ m cells sound accepted differ are d s here there. cell-reaches_points m cells sound accepted differ are d here s there

pub returns-clause-cells_of_ranks : goal.returns-clause-cells_of_ranks
returns-clause-cells_of_ranks c = rank-reaches
