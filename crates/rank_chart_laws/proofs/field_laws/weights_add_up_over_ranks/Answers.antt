use Rattle.rank_chart_laws.proofs.field_laws.Weights.{weight-by_rank}
use Rattle.rank_chart_laws.proofs.field_laws.weights_add_up_over_ranks.Goals as goal

pub returns : goal.returns
returns c = λ m n a p parts. weight-by_rank m n a p parts
