use Rattle.rank_laws.proofs.orient_laws.OwnSights.{unshared-first}
use Rattle.rank_laws.proofs.orient_laws.points_of_one_rank_are_first_seen_by_it.Goals as goal

pub returns : goal.returns
returns c = unshared-first
