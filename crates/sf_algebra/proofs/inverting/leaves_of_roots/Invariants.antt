use Rattle.std.proofs.Common.{◌≡◌, ℕ, length, map}
use Rattle.sf_algebra.proofs.Noting.{noted, first_to}
use Rattle.sf_algebra.proofs.inverting.leaves_of_roots.Given as goal

abbrev pub invariant-loop-rank : goal.invariant-loop-rank
invariant-loop-rank l = record {
  shape : map length l.found.items ≡ l.a.roots;
  noted : (to index : ℕ) → noted l.found.items to index ≡ first_to l.a l.rank to index;
}
