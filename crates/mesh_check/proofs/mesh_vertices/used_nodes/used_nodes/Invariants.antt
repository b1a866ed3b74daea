use Rattle.std.proofs.Common.{◌≡◌, map, take}
use Rattle.input_defs.specs.RightContent.{node_numbers}
use Rattle.mesh_check.specs.mesh_vertices.Vertices.{is_used_by}
use Rattle.mesh_check.proofs.mesh_vertices.used_nodes.used_nodes.Given as goal

abbrev pub invariant-loop-i : goal.invariant-loop-i
invariant-loop-i l = l.used.items ≡ map (is_used_by l.text (take l.i l.text.elements)) (node_numbers l.text)
