use Rattle.std.proofs.Common.{◌≡◌, ◌≤◌, ◌*◌, length, sum, sum_by}
use Rattle.plain_lists.specs.Vectors.{lists_of}
use Rattle.sf_tests.proofs.algebra_tests.texts.forest_of.Given as goal

abbrev pub invariant-loop-own : goal.invariant-loop-own
invariant-loop-own l = record {
  ranks : length l.leaves.items ≡ length l.roots.items;
  few_roots : sum l.roots.items ≤ 99 * length l.roots.items;
  few_leaves : sum_by length (lists_of l.leaves.items) ≤ 99 * length l.roots.items;
}
