use Rattle.rank_laws.proofs.cell_laws.Cells.{contains-all}
use Rattle.rank_laws.proofs.cell_laws.cells_contain_what_they_see.Goals as goal

pub returns : goal.returns
returns c = contains-all
