use Rattle.std.proofs.Common.{◌≡◌, ◌<◌, ℕ, [], length, get_or}
use Rattle.plain_lists.specs.Vectors.{lists_of}
use Rattle.sf_defs.specs.Forest.{leaves_on}
use Rattle.sf_ops.specs.slots.Ones.{AreOnes}
use Rattle.sf_ops.proofs.slots.values.ones.Given as goal

abbrev pub invariant-loop-rank : goal.invariant-loop-rank
invariant-loop-rank l = record {
  ranks : length l.values.items ≡ l.rank;
  ones : (rank : ℕ) → rank < l.rank → AreOnes (get_or (lists_of l.values.items) rank []) (leaves_on l.forest rank);
}
