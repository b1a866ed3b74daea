use Rattle.rank_laws.proofs.Inverting.{inverse-back, inverse-forth}
use Rattle.rank_laws.proofs.inverse_is_the_converse.Goals as goal

pub returns : goal.returns
returns c = λ f roots is_forest unshared r i s l. (inverse-back f is_forest roots r i (s, l), inverse-forth f is_forest unshared roots s l (r, i))
