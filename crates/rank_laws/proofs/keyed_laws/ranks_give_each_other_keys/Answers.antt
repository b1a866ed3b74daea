use Rattle.rank_laws.proofs.keyed_laws.Unions.{next-keys}
use Rattle.rank_laws.proofs.keyed_laws.ranks_give_each_other_keys.Goals as goal

pub returns : goal.returns
returns c = λ m n a b r dim keys each. next-keys m n a each b r dim keys
