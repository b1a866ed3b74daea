use Rattle.rank_chart_laws.proofs.moved_laws.Ranks.{same-points, same-numbers}
use Rattle.rank_chart_laws.proofs.moved_laws.charts_of_a_rank_have_the_same_points.Goals as goal

pub returns-clause-points : goal.returns-clause-points
returns-clause-points c = λ m a r right. same-points m right a r

pub returns-clause-numbers : goal.returns-clause-numbers
returns-clause-numbers c = λ m a r right. same-numbers m right a r
