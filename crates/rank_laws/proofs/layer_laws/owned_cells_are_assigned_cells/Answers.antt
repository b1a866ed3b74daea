use Rattle.rank_laws.proofs.layer_laws.Shrinking.{owned-cells}
use Rattle.rank_laws.proofs.layer_laws.owned_cells_are_assigned_cells.Goals as goal

pub returns : goal.returns
returns c = λ m a r k sound differ. owned-cells m sound differ a r k
