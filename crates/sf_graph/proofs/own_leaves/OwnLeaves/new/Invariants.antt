use Rattle.std.proofs.Common.{nat_eq}
use Rattle.std.specs.HashMap as hash
use Rattle.sf_graph.proofs.Flaws.{IsSearched}
use Rattle.sf_graph.proofs.own_leaves.OwnLeaves.new.Given as goal

abbrev pub invariant-loop-i : goal.invariant-loop-i
invariant-loop-i l = IsSearched l.roots l.rank l.leaves.items l.i (hash.get nat_eq l.by_local)
