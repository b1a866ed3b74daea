use Rattle.rank_laws.proofs.keyed_laws.Orders.{points-same}
use Rattle.rank_laws.proofs.keyed_laws.keyed_points_stand_one_way.Goals as goal

pub returns : goal.returns
returns c = points-same
