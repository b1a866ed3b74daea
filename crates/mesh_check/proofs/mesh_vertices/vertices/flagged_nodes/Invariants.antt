use Rattle.std.proofs.Common.{◌≡◌, ◌≤◌, Bool, length, map, take}
use Rattle.std.specs.Prelude.{filter}
use Rattle.input_defs.specs.Content.{Node}
use Rattle.mesh_check.specs.mesh_vertices.Vertices.{vertex_views}
use Rattle.mesh_check.proofs.mesh_vertices.vertices.flagged_nodes.Given as goal

abbrev pub invariant-loop-i : goal.invariant-loop-i
invariant-loop-i l = record {
  flagged : (test : Node → Bool) → l.flags ≡ map test l.text.nodes → vertex_views l.vertices.items ≡ filter test (take l.i l.text.nodes);
  count : length l.vertices.items ≤ l.i;
}
