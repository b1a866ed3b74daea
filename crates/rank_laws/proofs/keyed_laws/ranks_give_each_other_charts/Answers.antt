use Rattle.rank_laws.proofs.keyed_laws.Unions.{given-chart}
use Rattle.rank_laws.proofs.keyed_laws.ranks_give_each_other_charts.Goals as goal

pub returns : goal.returns
returns c = λ m n a b r each. given-chart m n a each b r
