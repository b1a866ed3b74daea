use Rattle.std.proofs.Common.{◌≡◌, map}
use Rattle.plain_lists.specs.Lists.{below}
use Rattle.dist_seed.specs.rank_cells.Own.{held_of}
use Rattle.dist_seed.proofs.parts.held_cells.Given as goal

abbrev pub invariant-loop-rank : goal.invariant-loop-rank
invariant-loop-rank l = l.held.items ≡ map (held_of l.mesh l.ranks) (below l.rank)
