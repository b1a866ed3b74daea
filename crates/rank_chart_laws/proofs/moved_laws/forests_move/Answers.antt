use Rattle.rank_chart_laws.proofs.moved_laws.Ranks.{forest-by_keys}
use Rattle.rank_chart_laws.proofs.moved_laws.forests_move.Goals as goal

pub returns : goal.returns
returns c = λ m n a right parts. forest-by_keys m right n a parts
