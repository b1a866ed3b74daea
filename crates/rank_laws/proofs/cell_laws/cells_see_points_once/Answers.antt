use Rattle.rank_laws.proofs.cell_laws.Cells.{once-all, few-all}
use Rattle.rank_laws.proofs.cell_laws.cells_see_points_once.Goals as goal

pub returns : goal.returns
returns c = record { once = λ m n cell p dims sound. once-all m n cell sound dims p; few = λ m n cell sound. few-all m n cell sound }
