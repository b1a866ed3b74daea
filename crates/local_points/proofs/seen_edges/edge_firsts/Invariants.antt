use Rattle.std.proofs.Common.{◌≡◌, ◌+◌, map, take, length}
use Rattle.plain_lists.specs.Lists.{below}
use Rattle.local_points.specs.Cells.{edges_seen}
use Rattle.local_points.proofs.seen_edges.edge_firsts.Given as goal

abbrev pub invariant-loop-i : goal.invariant-loop-i
invariant-loop-i g l = record {
  end : l.end ≡ length (edges_seen (take l.i (g.C.CellList.cells l.cells)));
  firsts : l.firsts.items ≡ map (λ k. length (edges_seen (take k (g.C.CellList.cells l.cells)))) (below (l.i + 1));
}
