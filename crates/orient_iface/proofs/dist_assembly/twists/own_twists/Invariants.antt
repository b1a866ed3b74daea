use Rattle.std.proofs.Common.{◌≡◌, map, take}
use Rattle.orient_iface.specs.dist_assembly.Drawn.{twist_in}
use Rattle.orient_iface.proofs.dist_assembly.twists.own_twists.Given as goal

-- the ranks up to here
abbrev pub invariant-loop-drawing : goal.invariant-loop-drawing
invariant-loop-drawing l = l.own.items ≡ map twist_in (take l.drawing-index l.drawings)
