use Rattle.std.proofs.Common.{◌≡◌, map, get_or}
use Rattle.plain_lists.specs.Lists.{below}
use Rattle.rank_cones.proofs.held_points.order.pairs_of.Given as goal

abbrev pub invariant-loop-k : goal.invariant-loop-k
invariant-loop-k l = l.pairs.items ≡ map (λ k. (get_or l.keys k 0, k)) (below l.k)
