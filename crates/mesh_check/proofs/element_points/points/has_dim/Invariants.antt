use Rattle.std.proofs.Common.{◌≡◌, false, take}
use Rattle.plex_base.specs.Dim.{dim_number}
use Rattle.mesh_check.specs.element_points.Flags.{has_dim}
use Rattle.mesh_check.proofs.element_points.points.has_dim.Given as goal

abbrev pub invariant-loop-i : goal.invariant-loop-i
invariant-loop-i l = has_dim (take l.i l.text.elements) (dim_number l.dim) ≡ false
