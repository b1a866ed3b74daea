use Rattle.std.proofs.Common.{◌≡◌, ◌+ℤ◌, take, map, fold}
use Rattle.walk_defs.specs.step_defs.Words.{signed_of}
use Rattle.walk_defs.specs.step_defs.Steps.{words_in}
use Rattle.step_report.proofs.sums.add_data.Given as goal

-- the fields up to here are added
abbrev pub invariant-loop-i : goal.invariant-loop-i
invariant-loop-i l = l.sum ≡ fold ◌+ℤ◌ l.fn.sum (map signed_of (words_in (take l.i l.local.fields) l.p))
