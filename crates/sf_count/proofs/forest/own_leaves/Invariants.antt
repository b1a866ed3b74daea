use Rattle.std.proofs.Common.{◌≡◌, length}
use Rattle.sf_count.proofs.forest.own_leaves.Given as goal

abbrev pub invariant-loop-i : goal.invariant-loop-i
invariant-loop-i l = length l.own.items ≡ l.i
