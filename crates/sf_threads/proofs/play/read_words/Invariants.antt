use Rattle.std.proofs.Common.{◌≡◌, take, length}
use Rattle.std.specs.Mem.Slots.{slots_items}
use Rattle.sf_threads.proofs.play.read_words.Given as goal

abbrev pub invariant-loop-i : goal.invariant-loop-i
invariant-loop-i l = (length l.after ≡ length l.initial.after) × (take l.i l.after ≡ take l.i (slots_items l.closed.words))
