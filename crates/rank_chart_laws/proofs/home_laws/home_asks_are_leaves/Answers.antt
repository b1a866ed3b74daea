use Rattle.rank_chart_laws.proofs.home_laws.OneRound.{asks-are}
use Rattle.rank_chart_laws.proofs.home_laws.home_asks_are_leaves.Goals as goal

pub returns : goal.returns
returns c = λ m a n local values own. asks-are m a n local values own
