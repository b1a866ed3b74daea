use Rattle.rank_chart_laws.proofs.rank_diagram_laws.Fitting.{parts-fit}
use Rattle.rank_chart_laws.proofs.rank_diagram_laws.ranks_have_whole_parts.Goals as goal

pub returns : goal.returns
returns c = λ m a r right. parts-fit m right a r
