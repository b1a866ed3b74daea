use Rattle.rank_laws.proofs.orient_laws.Tops.{top-stratum}
use Rattle.rank_laws.proofs.orient_laws.held_cells_are_own_cells.Goals as goal

pub returns : goal.returns
returns c = λ m a r sound differ. top-stratum m sound differ a r
