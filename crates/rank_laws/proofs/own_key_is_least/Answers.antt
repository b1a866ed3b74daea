use Rattle.rank_laws.proofs.OwnKeys.{own-least}
use Rattle.rank_laws.proofs.own_key_is_least.Goals as goal

pub returns : goal.returns
returns c = own-least
