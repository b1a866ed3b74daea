use Rattle.std.proofs.Common.{◌≡◌, ℕ, ◌<◌, [], length, get_or}
use Rattle.std.specs.Prelude.{IsPermutation}
use Rattle.std.specs.List.Sorted.{IsNonDecreasingBy}
use Rattle.plain_lists.specs.Vectors.{lists_of}
use Rattle.rank_chart_laws.specs.key_laws.Words.{leaf_number, leaves_found}
use Rattle.orient_iface.proofs.iface_keys.leaves.word_forest.Given as goal

abbrev pub invariant-loop-rank : goal.invariant-loop-rank
invariant-loop-rank l = record {
  ranks : length l.leaves.items ≡ l.rank;
  same : (r : ℕ) → r < l.rank → IsPermutation (leaves_found l.shared r (get_or (lists_of l.numbers) r [])) (get_or (lists_of l.leaves.items) r []);
  rising : (r : ℕ) → r < l.rank → IsNonDecreasingBy leaf_number (get_or (lists_of l.leaves.items) r []);
}
