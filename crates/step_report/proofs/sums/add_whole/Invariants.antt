use Rattle.std.proofs.Common.{◌≡◌, ◌+◌, take, fold}
use Rattle.step_report.proofs.sums.add_whole.Given as goal

-- the words up to here are added
abbrev pub invariant-loop-word : goal.invariant-loop-word
invariant-loop-word l = l.sum ≡ fold ◌+◌ l.fn.sum (take l.word-index l.words)
