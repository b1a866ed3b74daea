use Rattle.orient_iface.proofs.moved_points.Sourced.{AreSources}
use Rattle.orient_iface.proofs.moved_points.field.sources_of.Given as goal

-- the points up to here
abbrev pub invariant-loop-i : goal.invariant-loop-i
invariant-loop-i l = AreSources l.moves l.i l.sources.items
