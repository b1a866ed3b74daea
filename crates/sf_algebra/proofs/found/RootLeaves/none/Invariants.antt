use Rattle.std.proofs.Common.{◌≡◌, replicate}
use Rattle.sf_algebra.proofs.Noting.{no_leaf}
use Rattle.sf_algebra.proofs.found.RootLeaves.none.Given as goal

abbrev pub invariant-loop : goal.invariant-loop
invariant-loop l = l.leaves.items ≡ replicate l.counter no_leaf
