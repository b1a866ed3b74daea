use Rattle.input_laws.proofs.Ranks.{rank-below}
use Rattle.input_laws.proofs.rank_is_below_ranks.Goals as goal

pub returns : goal.returns
returns c = rank-below
