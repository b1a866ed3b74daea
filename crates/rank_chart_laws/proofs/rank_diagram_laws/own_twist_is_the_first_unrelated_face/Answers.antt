use Rattle.rank_chart_laws.proofs.rank_diagram_laws.Fitting.{own-twist-by}
use Rattle.rank_chart_laws.proofs.rank_diagram_laws.own_twist_is_the_first_unrelated_face.Goals as goal

pub returns : goal.returns
returns c = λ m a r right. own-twist-by m right a r
