use Rattle.step_report.specs.Counts.{AreTotals}
use Rattle.step_report.proofs.totals.totals.Given as goal

-- the totals of the ranks up to here
abbrev pub invariant-loop-rank : goal.invariant-loop-rank
invariant-loop-rank l = AreTotals l.d l.rank l.totals
