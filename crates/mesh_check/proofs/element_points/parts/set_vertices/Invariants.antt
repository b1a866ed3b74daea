use Rattle.std.proofs.Common.{take}
use Rattle.mesh_check.specs.element_points.Parts.{vertex_parts}
use Rattle.mesh_check.specs.element_points.Flags.{AreSet}
use Rattle.mesh_check.proofs.element_points.parts.set_vertices.Given as goal

abbrev pub invariant-loop-node : goal.invariant-loop-node
invariant-loop-node l = AreSet l.places.elements (vertex_parts (take l.node-index l.nodes)) l.fn.found l.found
