use Rattle.rank_laws.proofs.Redistribution.{migrations-compose}
use Rattle.rank_laws.proofs.redistributions_compose.Goals as goal

pub returns : goal.returns
returns c = λ m n a b c parts. migrations-compose m n a b parts c
