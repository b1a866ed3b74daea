use Rattle.std.proofs.Common.{◌≡◌, map}
use Rattle.plain_lists.specs.Lists.{below}
use Rattle.plain_lists.specs.Vectors.{lists_of}
use Rattle.orient_iface.specs.dist_assembly.Drawn.{drawn_moves}
use Rattle.orient_iface.proofs.dist_assembly.moves.all_moves.Given as goal

-- the ranks up to here
abbrev pub invariant-loop-rank : goal.invariant-loop-rank
invariant-loop-rank l = lists_of l.moves.items ≡ map (drawn_moves l.shared l.drawings) (below l.rank)
