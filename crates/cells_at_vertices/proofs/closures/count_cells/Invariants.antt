use Rattle.cells_at_vertices.specs.Own.{AreCounts}
use Rattle.cells_at_vertices.proofs.closures.count_cells.Given as goal

-- the cells up to here
abbrev pub invariant-loop-cell : goal.invariant-loop-cell
invariant-loop-cell l = AreCounts l.x l.cell l.counts.items
