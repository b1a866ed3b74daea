use Rattle.rank_laws.proofs.share_laws.Owners.{owner-first}
use Rattle.rank_laws.proofs.share_laws.owner_is_the_first_holder.Goals as goal

pub returns : goal.returns
returns c = λ m n a p sound parts h. owner-first m n a sound parts p h
