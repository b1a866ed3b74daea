use Rattle.std.proofs.Common.{◌≡◌, map, take}
use Rattle.input_defs.specs.Content.{Node}
use Rattle.mesh_check.proofs.mesh_vertices.used_nodes.node_numbers.Given as goal

abbrev pub invariant-loop-i : goal.invariant-loop-i
invariant-loop-i l = l.numbers.items ≡ map (λ (node : Node). node.number) (take l.i l.text.nodes)
