use Rattle.std.proofs.Common.{◌≡◌, ◌+ℤ◌, take, map, fold}
use Rattle.walk_defs.specs.step_defs.Words.{signed_of}
use Rattle.step_report.proofs.sums.add_signed.Given as goal

-- the words up to here are added
abbrev pub invariant-loop-word : goal.invariant-loop-word
invariant-loop-word l = l.sum ≡ fold ◌+ℤ◌ l.fn.sum (map signed_of (take l.word-index l.words))
