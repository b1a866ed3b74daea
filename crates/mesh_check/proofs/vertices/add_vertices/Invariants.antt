use Rattle.std.proofs.Common.{◌≡◌, map, take}
use Rattle.input_defs.specs.Content.{Node}
use Rattle.mesh_check.proofs.vertices.add_vertices.Given as goal

abbrev pub invariant-loop-v : goal.invariant-loop-v
invariant-loop-v l = l.builder ≡ record l.fn.builder { at = take l.v (map (λ (node : Node). node.at) l.fn.vertices) }
