use Rattle.rank_chart_laws.proofs.Right.{own-charts_right}
use Rattle.rank_chart_laws.proofs.ranks_of_a_mesh_may_meet.Goals as goal

pub returns : goal.returns
returns c = own-charts_right
