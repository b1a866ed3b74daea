use Rattle.std.proofs.Common.{◌≡◌, ◌+◌, ◌++◌, map, take}
use Rattle.orient_iface.proofs.dist_assembly.moves.push_edges.Given as goal

-- the edges up to here
abbrev pub invariant-loop-p : goal.invariant-loop-p
invariant-loop-p l = l.moves.items ≡ l.initial.moves.items ++ map (λ k. l.base + k) (take l.p l.held.edge_moves)
