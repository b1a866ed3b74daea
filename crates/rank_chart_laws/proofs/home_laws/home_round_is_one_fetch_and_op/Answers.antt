use Rattle.rank_chart_laws.proofs.home_laws.OneRound.{one-round}
use Rattle.rank_chart_laws.proofs.home_laws.home_round_is_one_fetch_and_op.Goals as goal

pub returns : goal.returns
returns c = λ m a n local values r own. one-round m a n local values own r
