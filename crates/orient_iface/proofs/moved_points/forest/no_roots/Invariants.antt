use Rattle.std.proofs.Common.{◌≡◌, None, replicate}
use Rattle.orient_iface.proofs.moved_points.forest.no_roots.Given as goal

-- the places up to here
abbrev pub invariant-loop-place : goal.invariant-loop-place
invariant-loop-place l = l.found.items ≡ replicate l._place None
