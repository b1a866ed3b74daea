use Rattle.std.proofs.Common.{◌≡◌, ◌<◌, ℕ, length, get_or}
use Rattle.sf_ops.specs.Asked.{first_word}
use Rattle.sf_ops.proofs.asking.first_words.Given as goal

abbrev pub invariant-loop-rank : goal.invariant-loop-rank
invariant-loop-rank l = record {
  next : l.first ≡ first_word l.forest.roots l.rank;
  count : length l.firsts.items ≡ l.rank;
  firsts : (rank : ℕ) → rank < l.rank → get_or l.firsts.items rank 0 ≡ first_word l.forest.roots rank;
}
