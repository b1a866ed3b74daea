use Rattle.std.proofs.Common.{◌+◌, ◌-◌, ◌≤◌, length}
use Rattle.sf_fabric.specs.orders.Places.{below_word}
use Rattle.sf_fabric.proofs.orders.orders.past_word.Given as goal

abbrev pub invariant-loop-past : goal.invariant-loop-past
invariant-loop-past l = record {
  low : below_word l.word l.places ≤ l.past;
  high : l.past ≤ below_word (l.word + 1) l.places;
}

abbrev pub decreases-loop-past : goal.decreases-loop-past
decreases-loop-past l = length l.places - l.past
