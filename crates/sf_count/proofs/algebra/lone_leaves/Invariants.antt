use Rattle.std.proofs.Common.{◌≡◌, ◌<◌, length}
use Rattle.std.specs.List.{AllByRecursion}
use Rattle.sf_defs.specs.declared.Leaf.{Leaf}
use Rattle.sf_count.proofs.algebra.lone_leaves.Given as goal

abbrev pub invariant-loop-i : goal.invariant-loop-i
invariant-loop-i l = (length l.own.items ≡ l.i) × AllByRecursion (λ (leaf : Leaf). leaf.local < l.leaves) l.own.items
