use Rattle.mesh_check.proofs.element_places.cells.list_cells.Given as goal
use Rattle.mesh_check.specs.element_places.Found.{AreCellsUpTo}

abbrev pub invariant-loop-i : goal.invariant-loop-i
invariant-loop-i l = AreCellsUpTo l.text l.i l.places.items l.before.items
