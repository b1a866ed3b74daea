use Rattle.rank_laws.proofs.layer_laws.Shrinking.{cell-owner}
use Rattle.rank_laws.proofs.layer_laws.cells_are_owned_by_their_ranks.Goals as goal

pub returns : goal.returns
returns c = λ m a d sound differ here. cell-owner m sound differ a d here
