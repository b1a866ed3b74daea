use Rattle.std.proofs.Common.{map, max, ap, ap₂, sym, ◌∙◌, arith}
use Rattle.std.specs.Prelude.{fold}
use Rattle.input_defs.specs.Meshes.{dim, greatest_dim}
use Rattle.mesh_check.proofs.element_places.Steps.{dims-next, take-whole}
use Rattle.mesh_check.proofs.element_places.cells.greatest_dim.Goals as goal

pub loop-i-preserved : goal.loop-i-preserved
loop-i-preserved c = c.greater-greatest.ensures ∙ ap₂ max c.loop-i.invariant c.dim_of_type.ensures ∙ sym (dims-next c.args.text.now.elements c.loop-i.i _ (omega arith) c.element.ensures)

pub returns : goal.returns
unfolding greatest_dim
returns c = c.loop-i.invariant ∙ ap (λ xs. fold max 0 (map dim xs)) (take-whole c.args.text.now.elements c.loop-i.i (omega arith) (omega arith))
