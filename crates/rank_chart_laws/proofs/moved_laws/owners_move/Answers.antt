use Rattle.rank_defs.specs.Ranks.{owner}
use Rattle.rank_chart_laws.proofs.moved_laws.Moved.{moved-points}
use Rattle.rank_chart_laws.proofs.moved_laws.owners_move.Goals as goal

pub returns : goal.returns
returns c = λ m a old new are. moved-points old new are 0 (owner m a)
