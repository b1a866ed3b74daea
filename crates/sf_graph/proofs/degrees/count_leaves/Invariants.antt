use Rattle.std.proofs.Common.{◌≡◌, ℕ, ◌+◌, length, map, take, count_by}
use Rattle.sf_defs.specs.Forest.{is_on_root}
use Rattle.sf_graph.specs.Parts.{count_at}
use Rattle.sf_graph.proofs.degrees.count_leaves.Given as goal

abbrev pub invariant-loop-leaf : goal.invariant-loop-leaf
invariant-loop-leaf l = record {
  shape : map length l.counts ≡ map length l.initial.counts;
  counted : (rank index : ℕ) → count_at l.counts rank index ≡ count_at l.initial.counts rank index + count_by (is_on_root (rank, index)) (take l.leaf-index l.leaves);
}
