use Rattle.std.proofs.Common.{◌≡◌, []}
use Rattle.input_defs.specs.Meshes.{cells_of}
use Rattle.mesh_check.specs.Partly.{coordinates, partly}
use Rattle.mesh_check.proofs.Assembled.{marks_up_to}
use Rattle.mesh_check.proofs.marks.add_marks.Given as goal

abbrev pub invariant-loop-i : goal.invariant-loop-i
invariant-loop-i l = l.builder ≡ partly l.fn.places (coordinates l.fn.places) (cells_of l.fn.places) (marks_up_to l.fn.places l.i) [] []
