use Rattle.std.proofs.Common.{◌≡◌, false, take}
use Rattle.mesh_check.specs.data_rows.Naming.{has_element_data}
use Rattle.mesh_check.proofs.data_rows.naming.needs_element_numbers.Given as goal

abbrev pub invariant-loop-i : goal.invariant-loop-i
invariant-loop-i l = has_element_data (take l.i l.text.fields) ≡ false
