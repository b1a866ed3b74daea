use Rattle.std.proofs.Common.{◌≡◌, ◌<◌, ℕ}
use Rattle.std.specs.Prelude.{slice_index}
use Rattle.std.specs.List.{AllByRecursion}
use Rattle.sf_defs.specs.declared.Leaf.{Leaf}
use Rattle.sf_defs.specs.Forest.{leaves_on}
use Rattle.sf_tests.proofs.algebra_tests.algebra.fits.Given as goal

abbrev pub invariant-loop-rank : goal.invariant-loop-rank
invariant-loop-rank l = (rank : ℕ) → rank < l.rank → AllByRecursion (λ (leaf : Leaf). leaf.local < slice_index l.b.roots rank) (leaves_on l.a rank)
