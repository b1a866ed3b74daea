use Rattle.rank_chart_laws.proofs.rank_diagram_laws.Fitting.{rank-diagram}
use Rattle.rank_chart_laws.proofs.rank_diagram_laws.rank_diagram_is_by_places.Goals as goal

pub returns : goal.returns
returns c = λ m a r right. rank-diagram m right a r
