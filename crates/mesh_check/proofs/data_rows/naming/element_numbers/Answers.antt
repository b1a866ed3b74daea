use Rattle.std.proofs.Common.{◌<◌, ◌∷◌, ◌++◌, [], length, ap, ◌∙◌, arith}
use Rattle.input_defs.specs.Content.{Element}
use Rattle.mesh_check.proofs.mesh_vertices.Listing.{map-next}
use Rattle.mesh_check.proofs.data_rows.naming.element_numbers.Goals as goal

pub loop-i-preserved : goal.loop-i-preserved
loop-i-preserved c =
    let low : c.loop-i.i < length c.args.text.now.elements = omega (arith, c.elements-i-end.ensures) in
    c.in_ok-push.ensures.items ∙ ap (λ l. l ++ c.element.result.number ∷ []) c.loop-i.invariant ∙ map-next (λ (e : Element). e.number) c.args.text.now.elements c.loop-i.i _ low c.element.ensures
