use Rattle.rank_laws.proofs.Inverting.{inverse-twice}
use Rattle.rank_laws.proofs.inverting_twice_means_the_same.Goals as goal

pub returns : goal.returns
returns c = λ f roots is_forest unshared fits. inverse-twice f is_forest unshared roots fits
