use Rattle.std.proofs.Common.{◌≡◌, map, take}
use Rattle.input_defs.specs.Meshes.{vertex_nodes, cells_of, point_of_element, is_point_of}
use Rattle.mesh_check.proofs.element_points.points.on_points.Given as goal

abbrev pub invariant-loop-i : goal.invariant-loop-i
invariant-loop-i l = l.on.items ≡ map (λ e. is_point_of (cells_of l.places) (point_of_element (vertex_nodes l.places) e)) (take l.i l.places.elements)
