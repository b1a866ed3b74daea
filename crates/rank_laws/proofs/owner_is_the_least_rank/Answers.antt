use Rattle.rank_laws.proofs.Owning.{owner-least}
use Rattle.rank_laws.proofs.owner_is_the_least_rank.Goals as goal

pub returns : goal.returns
returns c = owner-least
