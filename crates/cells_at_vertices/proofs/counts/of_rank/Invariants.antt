use Rattle.cells_at_vertices.specs.Picked.{ArePicked}
use Rattle.cells_at_vertices.proofs.counts.of_rank.Given as goal

-- the vertices up to here
abbrev pub invariant-loop-p : goal.invariant-loop-p
invariant-loop-p l = ArePicked l.fn.local l.fn.words l.p l.counts.items
