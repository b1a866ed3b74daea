use Rattle.rank_laws.proofs.keyed_laws.Orders.{chart-told}
use Rattle.rank_laws.proofs.keyed_laws.told_points_make_charts.Goals as goal

pub returns : goal.returns
returns c = chart-told
