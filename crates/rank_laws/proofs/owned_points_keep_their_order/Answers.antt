use Rattle.rank_laws.proofs.Owning.{owned-order}
use Rattle.rank_laws.proofs.owned_points_keep_their_order.Goals as goal

pub returns : goal.returns
returns c = owned-order
