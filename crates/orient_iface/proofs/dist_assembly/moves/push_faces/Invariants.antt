use Rattle.std.proofs.Common.{◌≡◌, ◌+◌, ◌++◌, map, take}
use Rattle.orient_iface.proofs.dist_assembly.moves.push_faces.Given as goal

-- the faces up to here
abbrev pub invariant-loop-p : goal.invariant-loop-p
invariant-loop-p l = l.moves.items ≡ l.initial.moves.items ++ map (λ k. l.base + k) (take l.p l.held.face_moves)
