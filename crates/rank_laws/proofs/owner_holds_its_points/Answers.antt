use Rattle.rank_laws.proofs.Owning.{owner-holds}
use Rattle.rank_laws.proofs.owner_holds_its_points.Goals as goal

pub returns : goal.returns
returns c = owner-holds
