use Rattle.std.proofs.Common.{◌<◌, ◌∷◌, ◌++◌, [], length, ap, ◌∙◌, arith}
use Rattle.input_defs.specs.Content.{Node}
use Rattle.mesh_check.proofs.mesh_vertices.Listing.{map-next}
use Rattle.mesh_check.proofs.mesh_vertices.used_nodes.node_numbers.Goals as goal

pub loop-i-preserved : goal.loop-i-preserved
loop-i-preserved c =
    let low : c.loop-i.i < length c.args.text.now.nodes = omega (arith, c.nodes-i-end.ensures.nodes) in
    c.in_ok-push.ensures.items ∙ ap (λ l. l ++ c.node.result.0 ∷ []) c.loop-i.invariant ∙ map-next (λ (node : Node). node.number) c.args.text.now.nodes c.loop-i.i _ low c.node.ensures
