use Rattle.rank_laws.proofs.Redistribution.{migrations-compose}
use Rattle.rank_laws.proofs.trace_laws.traces_go_on.Goals as goal

pub returns-clause-first : goal.returns-clause-first
returns-clause-first c = λ m n a b each. migrations-compose m n a a each b

pub returns-clause-next : goal.returns-clause-next
returns-clause-next c = λ m n a b d each. migrations-compose m n a b each d
