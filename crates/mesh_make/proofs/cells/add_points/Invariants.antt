use Rattle.std.proofs.Common.{◌≡◌, [], take}
use Rattle.input_defs.specs.Generated.{made}
use Rattle.mesh_make.specs.Spots.{partly}
use Rattle.mesh_make.proofs.cells.add_points.Given as goal

abbrev pub invariant-loop-i : goal.invariant-loop-i
invariant-loop-i l = l.builder ≡ partly l.fn.kind l.n (take l.i (made l.fn.kind l.n).at) []
