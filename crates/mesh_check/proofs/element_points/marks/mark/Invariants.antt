use Rattle.std.proofs.Common.{◌≡◌, ℕ, true, false, get_or, take}
use Rattle.input_defs.specs.Sections.{has_number}
use Rattle.mesh_check.proofs.element_points.marks.mark.Given as goal

abbrev pub invariant-loop-node : goal.invariant-loop-node
invariant-loop-node l = (n : ℕ) → get_or l.flags n true ≡ false → (get_or l.fn.flags n true ≡ false) × (has_number (take l.node-index l.nodes) n ≡ false)
