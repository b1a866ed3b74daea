use Rattle.rank_cones.proofs.held_points.Charts.{held-is}
use Rattle.rank_cones.proofs.held_points.laws.points_by_key_are_a_chart.Goals as goal

pub returns : goal.returns
returns c = held-is
