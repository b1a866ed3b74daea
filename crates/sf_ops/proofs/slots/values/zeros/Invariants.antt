use Rattle.std.proofs.Common.{◌≡◌, take}
use Rattle.plain_lists.specs.Vectors.{lists_of}
use Rattle.sf_ops.proofs.slots.Draws.{zeros_for}
use Rattle.sf_ops.proofs.slots.values.zeros.Given as goal

abbrev pub invariant-loop-rank : goal.invariant-loop-rank
invariant-loop-rank l = lists_of l.values.items ≡ zeros_for (take l.rank l.forest.roots)
