use Rattle.std.proofs.Common.{◌≡◌, map, take}
use Rattle.input_defs.specs.Content.{Element}
use Rattle.mesh_check.proofs.data_rows.naming.element_numbers.Given as goal

abbrev pub invariant-loop-i : goal.invariant-loop-i
invariant-loop-i l = l.numbers.items ≡ map (λ (e : Element). e.number) (take l.i l.text.elements)
