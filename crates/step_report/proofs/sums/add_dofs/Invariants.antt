use Rattle.std.proofs.Common.{◌≡◌, ◌+◌, take, drop, fold}
use Rattle.walk_defs.specs.step_defs.Steps.{words_in}
use Rattle.step_report.proofs.sums.add_dofs.Given as goal

-- the fields up to here are added
abbrev pub invariant-loop-i : goal.invariant-loop-i
invariant-loop-i l = l.sum ≡ fold ◌+◌ l.fn.sum (words_in (take l.i (drop l.sections l.local.fields)) l.p)
