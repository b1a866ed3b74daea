use Rattle.std.proofs.Common.{◌≡◌, map, take, length}
use Rattle.plain_lists.specs.Lists.{below}
use Rattle.plain_lists.specs.Vectors.{lists_of}
use Rattle.sf_defs.specs.Forest.{leaves_on}
use Rattle.rank_chart_laws.specs.moved_laws.Moves.{moves_on}
use Rattle.orient_iface.proofs.moved_points.Routed.{routes}
use Rattle.orient_iface.proofs.moved_points.forest.moved_roots.Given as goal

-- the leaves up to here
abbrev pub invariant-loop-i : goal.invariant-loop-i
invariant-loop-i l = l.found.items ≡ map (routes (lists_of l.moves) (moves_on (lists_of l.moves) l.rank) (take l.i (leaves_on l.forest l.rank))) (below (length (moves_on (lists_of l.moves) l.rank)))
