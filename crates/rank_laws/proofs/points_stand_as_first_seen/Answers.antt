use Rattle.rank_laws.proofs.Strata.{strata-keys}
use Rattle.rank_laws.proofs.points_stand_as_first_seen.Goals as goal

pub returns : goal.returns
returns c = strata-keys
