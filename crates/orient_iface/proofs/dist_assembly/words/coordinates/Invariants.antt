use Rattle.std.proofs.Common.{◌≡◌, take}
use Rattle.dist_state.specs.shared_state.Points.{shared_at}
use Rattle.orient_iface.proofs.dist_assembly.words.coordinates.Given as goal

-- the vertices up to here
abbrev pub invariant-loop-i : goal.invariant-loop-i
invariant-loop-i l = l.at.items ≡ take l.i (shared_at l.shared.parts l.rank).at
