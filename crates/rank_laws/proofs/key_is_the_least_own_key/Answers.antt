use Rattle.rank_laws.proofs.OwnKeys.{key-of_own_keys}
use Rattle.rank_laws.proofs.key_is_the_least_own_key.Goals as goal

pub returns : goal.returns
returns c = λ m n a p ne parts. key-of_own_keys m p ne n a parts
