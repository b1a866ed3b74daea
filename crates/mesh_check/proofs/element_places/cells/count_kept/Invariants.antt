use Rattle.std.proofs.Common.{◌≡◌, [], length, take}
use Rattle.input_defs.specs.Meshes.{kept_after}
use Rattle.mesh_check.proofs.element_places.cells.count_kept.Given as goal

abbrev pub invariant-loop-i : goal.invariant-loop-i
invariant-loop-i l = l.kept ≡ length (kept_after [] (take l.i l.text.elements))
