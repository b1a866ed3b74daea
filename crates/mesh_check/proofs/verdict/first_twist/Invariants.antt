use Rattle.std.proofs.Common.{◌≡◌, false, take}
use Rattle.std.specs.List.{list_any}
use Rattle.input_defs.specs.Meshes.{is_twisted}
use Rattle.mesh_check.proofs.verdict.first_twist.Given as goal

abbrev pub invariant-loop-i : goal.invariant-loop-i
invariant-loop-i l = list_any (is_twisted l.fn.places) (take l.i l.fn.places.elements) ≡ false
