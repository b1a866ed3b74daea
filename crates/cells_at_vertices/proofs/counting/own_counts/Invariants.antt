use Rattle.plain_lists.specs.Vectors.{lists_of}
use Rattle.cells_at_vertices.specs.Own.{AreOwnCounts}
use Rattle.cells_at_vertices.proofs.counting.own_counts.Given as goal

-- the ranks up to here
abbrev pub invariant-loop-rank : goal.invariant-loop-rank
invariant-loop-rank l = AreOwnCounts l.fn.dist.locals l.rank (lists_of l.counts.items)
