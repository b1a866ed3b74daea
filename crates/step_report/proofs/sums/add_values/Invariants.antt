use Rattle.std.proofs.Common.{◌≡◌, ◌+ℤ◌, take, fold}
use Rattle.step_report.proofs.sums.add_values.Given as goal

-- the values up to here are added
abbrev pub invariant-loop-value : goal.invariant-loop-value
invariant-loop-value l = l.sum ≡ fold ◌+ℤ◌ l.fn.sum (take l.value-index l.values)
