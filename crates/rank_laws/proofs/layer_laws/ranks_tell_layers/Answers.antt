use Rattle.std.proofs.Common.{add-one}
use Rattle.rank_laws.proofs.layer_laws.Around.{layer-told}
use Rattle.rank_laws.proofs.layer_laws.ranks_tell_layers.Goals as goal

pub returns : goal.returns
returns c = λ m n a r k test sound each. rw (add-one k) (layer-told m n a r k test sound each)
