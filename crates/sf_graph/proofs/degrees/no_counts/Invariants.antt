use Rattle.std.proofs.Common.{◌≡◌, ℕ, map, take, replicate}
use Rattle.sf_graph.proofs.degrees.no_counts.Given as goal

abbrev pub invariant-loop-own : goal.invariant-loop-own
invariant-loop-own l = l.all.items ≡ map (λ (n : ℕ). replicate n 0) (take l.own-index l.roots)
