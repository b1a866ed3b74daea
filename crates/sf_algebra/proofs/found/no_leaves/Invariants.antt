use Rattle.std.proofs.Common.{◌≡◌, ℕ, None, map, take, replicate}
use Rattle.sf_algebra.proofs.found.no_leaves.Given as goal

abbrev pub invariant-loop-rank : goal.invariant-loop-rank
invariant-loop-rank l = l.found.items ≡ map (λ (n : ℕ). replicate n None) (take l.rank l.forest.roots)
