use Rattle.step_report.specs.Counts.{AreCounted}
use Rattle.step_report.proofs.counts.count_owners.Given as goal

-- the points up to here are counted
abbrev pub invariant-loop-p : goal.invariant-loop-p
invariant-loop-p l = AreCounted l.local l.p l.counts
