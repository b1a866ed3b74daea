use Rattle.rank_laws.proofs.keyed_laws.Orders.{stratum-told}
use Rattle.rank_laws.proofs.keyed_laws.keys_tell_strata.Goals as goal

pub returns : goal.returns
returns c = λ m cells dim qs told keys. stratum-told m dim cells qs told keys
