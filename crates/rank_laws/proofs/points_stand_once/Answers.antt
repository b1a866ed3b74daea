use Rattle.rank_laws.proofs.Strata.{strata-differ}
use Rattle.rank_laws.proofs.points_stand_once.Goals as goal

pub returns : goal.returns
returns c = strata-differ
