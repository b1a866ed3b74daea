use Rattle.rank_laws.proofs.orient_laws.ByKey.{by-key}
use Rattle.rank_laws.proofs.orient_laws.held_points_are_own_points_by_key.Goals as goal

pub returns : goal.returns
returns c = λ m cells dim sorted are ne shuffled rises. by-key m cells dim ne are sorted shuffled rises
