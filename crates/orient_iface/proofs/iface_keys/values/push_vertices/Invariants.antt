use Rattle.std.proofs.Common.{◌≡◌, ◌++◌, take}
use Rattle.orient_iface.proofs.iface_keys.values.push_vertices.Given as goal

abbrev pub invariant-loop-vertex : goal.invariant-loop-vertex
invariant-loop-vertex l = l.keys.items ≡ l.initial.keys.items ++ take l.vertex-index l.vertices
