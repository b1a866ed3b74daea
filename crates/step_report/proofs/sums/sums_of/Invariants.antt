use Rattle.step_report.specs.Sums.{AreSums}
use Rattle.step_report.proofs.sums.sums_of.Given as goal

-- the ranks up to here are added
abbrev pub invariant-loop-rank : goal.invariant-loop-rank
invariant-loop-rank l = AreSums l.d l.rank 0 l.sums
