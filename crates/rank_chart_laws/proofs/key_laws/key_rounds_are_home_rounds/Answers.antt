use Rattle.rank_chart_laws.proofs.key_laws.Told.{round-is}
use Rattle.rank_chart_laws.proofs.key_laws.key_rounds_are_home_rounds.Goals as goal

pub returns : goal.returns
returns c = λ s m dofs a n places numbers r is all told run. round-is s m dofs a n is places all numbers told r run
