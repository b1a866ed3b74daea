use Rattle.std.proofs.Common.{◌≡◌, ◌<◌, ℕ, [], length, get_or}
use Rattle.plain_lists.specs.Vectors.{lists_of}
use Rattle.sf_ops.specs.Asked.{CoversOwn}
use Rattle.sf_tests.proofs.algebra_tests.words.leaf_words.Given as goal

abbrev pub invariant-loop-rank : goal.invariant-loop-rank
invariant-loop-rank l = record {
  ranks : length l.values.items ≡ l.rank;
  places : (rank : ℕ) → rank < l.rank → CoversOwn (get_or (lists_of l.values.items) rank []) (get_or l.forest.leaves rank []);
}
