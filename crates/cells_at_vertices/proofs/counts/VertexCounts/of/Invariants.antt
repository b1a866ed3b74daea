use Rattle.plain_lists.specs.Vectors.{lists_of}
use Rattle.cells_at_vertices.specs.Picked.{AreAllPicked}
use Rattle.cells_at_vertices.proofs.counts.VertexCounts.of.Given as goal

-- the ranks up to here
abbrev pub invariant-loop-rank : goal.invariant-loop-rank
invariant-loop-rank l = AreAllPicked l.fn.dist.locals (lists_of l.fn.words) l.rank (lists_of l.ranks.items)
