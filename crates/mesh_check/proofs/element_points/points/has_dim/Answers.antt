use Rattle.std.proofs.Common.{◌<◌, ◌==◌, length, sym, ◌∙◌, arith}
use Rattle.std.proofs.lemmas.Bool.{eq-eqb, ne_eqb}
use Rattle.input_defs.specs.Content.{Element}
use Rattle.input_defs.specs.Meshes.{dim}
use Rattle.plex_base.specs.Dim.{dim_number}
use Rattle.mesh_check.proofs.element_points.Reading.{any-at, any-skips}
use Rattle.mesh_check.proofs.element_points.points.has_dim.Goals as goal

pub returns-then-number : goal.returns-then-number
returns-then-number c =
    let low : c.loop-i.i < length c.args.text.now.elements = omega (arith, c.elements-i-end.ensures) in
    let same = sym (c.number.ensures ∙ c.dim_of_type.ensures) ∙ c.if-number.true ∙ c.number-in-loop-i.ensures in
    sym (any-at (λ (e : Element). dim e == dim_number c.args.dim) c.args.text.now.elements c.loop-i.i _ low c.element.ensures (eq-eqb _ _ same))

pub loop-i-preserved : goal.loop-i-preserved
loop-i-preserved c =
    let low : c.loop-i.i < length c.args.text.now.elements = omega (arith, c.elements-i-end.ensures) in
    any-skips (λ (e : Element). dim e == dim_number c.args.dim) c.args.text.now.elements c.loop-i.i _ low c.element.ensures
    (ne_eqb _ _ (λ same. c.if-number.false (c.number.ensures ∙ c.dim_of_type.ensures ∙ same ∙ sym c.number-in-loop-i.ensures))) c.loop-i.invariant
