use Rattle.std.proofs.Common.{◌≡◌, map}
use Rattle.plain_lists.specs.Lists.{below}
use Rattle.plain_lists.specs.Vectors.{lists_of}
use Rattle.sf_defs.specs.Forest.{roots_on, leaves_on}
use Rattle.rank_chart_laws.specs.moved_laws.Moves.{moves_on, moved_leaves}
use Rattle.orient_iface.proofs.moved_points.forest.moved_forest.Given as goal

-- the ranks up to here
abbrev pub invariant-loop-rank : goal.invariant-loop-rank
invariant-loop-rank l = record {
  roots : l.roots.items ≡ map (roots_on l.forest) (below l.rank);
  leaves : lists_of l.leaves.items ≡ map (λ r. moved_leaves (lists_of l.moves) (moves_on (lists_of l.moves) r) (leaves_on l.forest r)) (below l.rank);
}
