use Rattle.std.proofs.Common.{◌≡◌, [], take}
use Rattle.input_defs.specs.Meshes.{cells_of}
use Rattle.mesh_check.specs.Partly.{coordinates, partly}
use Rattle.mesh_check.proofs.cells.add_cells.Given as goal

abbrev pub invariant-loop-place : goal.invariant-loop-place
invariant-loop-place l = l.builder ≡ partly l.fn.places (coordinates l.fn.places) (take l.place-index (cells_of l.fn.places)) [] [] []
