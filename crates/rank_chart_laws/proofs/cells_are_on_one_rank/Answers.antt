use Rattle.rank_chart_laws.proofs.Wholes.{tops-first}
use Rattle.rank_chart_laws.proofs.cells_are_on_one_rank.Goals as goal

pub returns : goal.returns
returns c = λ m n a r sound differ parts low. tops-first m sound differ a n parts r low
