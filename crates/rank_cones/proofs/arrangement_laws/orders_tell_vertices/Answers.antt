use Rattle.rank_cones.proofs.arrangement_laws.Orders.{order-back}
use Rattle.rank_cones.proofs.arrangement_laws.orders_tell_vertices.Goals as goal

pub returns : goal.returns
returns c = order-back
