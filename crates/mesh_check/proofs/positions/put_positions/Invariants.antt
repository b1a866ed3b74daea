use Rattle.std.proofs.Common.{◌≡◌, map, take}
use Rattle.input_defs.specs.Meshes.{vertex_of}
use Rattle.mesh_check.proofs.positions.put_positions.Given as goal

abbrev pub invariant-loop-node : goal.invariant-loop-node
invariant-loop-node l = l.positions.items ≡ map (vertex_of l.vertices) (take l.node-index l.nodes)
