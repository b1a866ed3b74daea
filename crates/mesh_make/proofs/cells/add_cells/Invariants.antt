use Rattle.std.proofs.Common.{◌≡◌, take}
use Rattle.input_defs.specs.Generated.{made}
use Rattle.mesh_make.specs.Spots.{partly}
use Rattle.mesh_make.proofs.cells.add_cells.Given as goal

abbrev pub invariant-loop-j : goal.invariant-loop-j
invariant-loop-j l = l.builder ≡ partly l.fn.kind l.fn.n (made l.fn.kind l.fn.n).at (take l.j (made l.fn.kind l.fn.n).cells)
