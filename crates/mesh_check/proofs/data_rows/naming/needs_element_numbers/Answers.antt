use Rattle.std.proofs.Common.{◌<◌, length, sym, ◌∙◌, arith}
use Rattle.mesh_defs.specs.Mesh.{Section}
use Rattle.mesh_check.specs.data_rows.Naming.{is_on_elements}
use Rattle.mesh_check.proofs.data_rows.Numbers.{any-at, any-skips}
use Rattle.mesh_check.proofs.data_rows.naming.needs_element_numbers.Goals as goal

pub returns-then-is_on_elements : goal.returns-then-is_on_elements
returns-then-is_on_elements c =
    let low : c.loop-i.i < length c.args.text.now.fields = omega (arith, c.fields-i-end.ensures) in
    sym (any-at (λ (s : Section). is_on_elements s.on) c.args.text.now.fields c.loop-i.i _ low c.field-on.ensures (sym c.is_on_elements.ensures ∙ c.if-is_on_elements.true))

pub loop-i-preserved : goal.loop-i-preserved
loop-i-preserved c =
    let low : c.loop-i.i < length c.args.text.now.fields = omega (arith, c.fields-i-end.ensures) in
    any-skips (λ (s : Section). is_on_elements s.on) c.args.text.now.fields c.loop-i.i _ low c.field-on.ensures (sym c.is_on_elements.ensures ∙ c.if-is_on_elements.false) c.loop-i.invariant
