use Rattle.std.proofs.Common.{◌≡◌, take}
use Rattle.sf_tests.proofs.algebra_tests.algebra.roots_of.Given as goal

abbrev pub invariant-loop-rank : goal.invariant-loop-rank
invariant-loop-rank l = l.roots.items ≡ take l.rank l.forest.roots
