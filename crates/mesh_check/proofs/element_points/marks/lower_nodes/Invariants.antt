use Rattle.std.proofs.Common.{◌≡◌, ℕ, true, false, get_or, take}
use Rattle.mesh_check.specs.element_points.Marks.{lower_has}
use Rattle.mesh_check.proofs.element_points.marks.lower_nodes.Given as goal

abbrev pub invariant-loop-i : goal.invariant-loop-i
invariant-loop-i l = (n : ℕ) → get_or l.flags.items n true ≡ false → lower_has l.places (take l.i l.places.elements) n ≡ false
