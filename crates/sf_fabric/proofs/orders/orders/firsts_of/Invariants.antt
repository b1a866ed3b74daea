use Rattle.std.proofs.Common.{◌≡◌, ℕ, ◌<◌, length, get_or}
use Rattle.sf_fabric.specs.orders.Places.{below_word}
use Rattle.sf_fabric.proofs.orders.orders.firsts_of.Given as goal

abbrev pub invariant-loop-word : goal.invariant-loop-word
invariant-loop-word l = record {
  next : l.first ≡ below_word l.word l.places;
  count : length l.firsts.items ≡ l.word;
  firsts : (w : ℕ) → w < l.word → get_or l.firsts.items w 0 ≡ below_word w l.places;
}
