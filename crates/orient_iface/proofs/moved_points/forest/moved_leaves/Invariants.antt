use Rattle.std.proofs.Common.{◌≡◌}
use Rattle.std.specs.Prelude.{filter_map}
use Rattle.plain_lists.specs.Lists.{below}
use Rattle.orient_iface.proofs.moved_points.Routed.{routed}
use Rattle.orient_iface.proofs.moved_points.forest.moved_leaves.Given as goal

-- the places up to here
abbrev pub invariant-loop-local : goal.invariant-loop-local
invariant-loop-local l = l.leaves.items ≡ filter_map (routed l.found.items) (below l.local)
