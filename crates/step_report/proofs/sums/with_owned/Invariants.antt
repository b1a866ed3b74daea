use Rattle.step_report.specs.Sums.{AreSums}
use Rattle.step_report.proofs.sums.with_owned.Given as goal

-- the points up to here are added
abbrev pub invariant-loop-p : goal.invariant-loop-p
invariant-loop-p l = AreSums l.d l.rank l.p l.sums
