use Rattle.std.proofs.Common.{add-one}
use Rattle.rank_laws.proofs.layer_laws.Around.{layer-keys}
use Rattle.rank_laws.proofs.layer_laws.ranks_tell_the_keys_of_layers.Goals as goal

pub returns : goal.returns
returns c = λ m n a r k dim keys sound each rises h. rw (add-one k) (layer-keys m n a r k dim keys sound each rises h)
