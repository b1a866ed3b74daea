use Rattle.std.proofs.Common.{◌≡◌, ◌+◌, take}
use Rattle.std.specs.Prelude.{count_by}
use Rattle.step_report.specs.Sums.{is_back}
use Rattle.step_report.proofs.sums.add_back.Given as goal

-- the entries up to here are counted
abbrev pub invariant-loop-entry : goal.invariant-loop-entry
invariant-loop-entry l = l.sum ≡ l.fn.sum + count_by is_back (take l.entry-index l.cone)
