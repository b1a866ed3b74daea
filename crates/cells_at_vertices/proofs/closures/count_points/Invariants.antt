use Rattle.std.proofs.Common.{take}
use Rattle.cells_at_vertices.specs.Own.{IsCounted}
use Rattle.cells_at_vertices.proofs.closures.count_points.Given as goal

-- the entries up to here
abbrev pub invariant-loop-entry : goal.invariant-loop-entry
invariant-loop-entry l = IsCounted (take l.entry-index l.closure) l.initial.counts.items l.counts.items
