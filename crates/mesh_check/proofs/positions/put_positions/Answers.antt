use Rattle.std.proofs.Common.{[], ◌∷◌, ◌++◌, map, get_or, take, sym, ap, ap₂, ◌∙◌}
use Rattle.std.proofs.lemmas.List.{take_more, map-append}
use Rattle.input_defs.specs.Meshes.{vertex_of}
use Rattle.mesh_check.proofs.positions.put_positions.Goals as goal

pub loop-node-preserved : goal.loop-node-preserved
loop-node-preserved c =
    let xs = c.args.nodes.now in
    c.in_ok-push.ensures.items ∙ ap₂ (λ ys n. ys ++ n ∷ []) c.loop-node.invariant c.position.ensures
    ∙ sym (map-append (vertex_of c.args.vertices.now) (take c.loop-node.node-index xs) (get_or xs c.loop-node.node-index 0 ∷ []))
    ∙ ap (map (vertex_of c.args.vertices.now)) (sym (take_more xs c.loop-node.node-index 0 c.loop-node-test.true))
