use Rattle.std.proofs.Common.{◌≡◌, ◌≤◌, [], not, length, take}
use Rattle.std.specs.Prelude.{filter}
use Rattle.input_defs.specs.Meshes.{vertex_nodes, cells_of, point_of_element, is_point_of, kept_after}
use Rattle.mesh_check.proofs.element_points.points.count_loose.Given as goal

abbrev pub invariant-loop-i : goal.invariant-loop-i
invariant-loop-i l = record {
  loose : l.loose ≡ length (filter (λ e. not (is_point_of (cells_of l.places) (point_of_element (vertex_nodes l.places) e))) (kept_after [] (take l.i l.places.elements)));
  few : l.loose ≤ l.i;
}
