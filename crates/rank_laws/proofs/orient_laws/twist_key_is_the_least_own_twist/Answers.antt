use Rattle.rank_laws.proofs.orient_laws.OwnSights.{twist-of_ranks}
use Rattle.rank_laws.proofs.orient_laws.twist_key_is_the_least_own_twist.Goals as goal

pub returns : goal.returns
returns c = twist-of_ranks
