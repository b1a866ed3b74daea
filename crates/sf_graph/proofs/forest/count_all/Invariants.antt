use Rattle.std.proofs.Common.{◌≡◌, ℕ, length, map, take, count_by, sum_by}
use Rattle.sf_defs.specs.Forest.{is_on_root}
use Rattle.sf_graph.specs.Parts.{count_at}
use Rattle.sf_graph.proofs.forest.count_all.Given as goal

abbrev pub invariant-loop-own : goal.invariant-loop-own
invariant-loop-own l = record {
  shape : map length l.counts ≡ l.roots;
  counted : (rank index : ℕ) → count_at l.counts rank index ≡ sum_by (count_by (is_on_root (rank, index))) (take l.own-index l.leaves);
}
