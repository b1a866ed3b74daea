use Rattle.std.proofs.Common.{◌≡◌, map, take, max}
use Rattle.std.specs.Prelude.{fold}
use Rattle.plex_base.specs.Dim.{dim_number}
use Rattle.input_defs.specs.Meshes.{dim}
use Rattle.mesh_check.proofs.element_places.cells.greatest_dim.Given as goal

abbrev pub invariant-loop-i : goal.invariant-loop-i
invariant-loop-i l = dim_number l.greatest ≡ fold max 0 (map dim (take l.i l.text.elements))
