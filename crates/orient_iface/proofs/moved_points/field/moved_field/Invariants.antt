use Rattle.std.proofs.Common.{◌≡◌, [], map, take, get_or}
use Rattle.orient_iface.proofs.moved_points.field.moved_field.Given as goal

-- the points up to here
abbrev pub invariant-loop-from : goal.invariant-loop-from
invariant-loop-from l = l.moved ≡ map (λ i. get_or l.field i []) (take l.from-index l.from-items)
