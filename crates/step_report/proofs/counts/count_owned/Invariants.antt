use Rattle.step_report.specs.Counts.{IsCounted}
use Rattle.step_report.proofs.counts.count_owned.Given as goal

-- the points up to here are counted
abbrev pub invariant-loop-p : goal.invariant-loop-p
invariant-loop-p l = IsCounted l.local l.rank l.p l.counts
