use Rattle.rank_laws.proofs.Owning.{owner-below}
use Rattle.rank_laws.proofs.owners_are_ranks.Goals as goal

pub returns : goal.returns
returns c = λ m n a p parts h. owner-below m n a parts p h
