use Rattle.rank_chart_laws.proofs.Right.{own-forest_by_sets}
use Rattle.rank_chart_laws.proofs.sets_tell_the_shared_points.Goals as goal

pub returns : goal.returns
returns c = own-forest_by_sets
