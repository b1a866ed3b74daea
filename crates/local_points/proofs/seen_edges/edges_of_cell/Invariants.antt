use Rattle.std.proofs.Common.{◌≡◌, map, take}
use Rattle.std.specs.List.{enumerate_from}
use Rattle.mesh_defs.specs.Tables.{edges_of}
use Rattle.mesh_defs.specs.Points.{cell_edge}
use Rattle.local_points.specs.Cells.{cell_at}
use Rattle.local_points.specs.Stored.{edge_sight_of}
use Rattle.local_points.proofs.seen_edges.edges_of_cell.Given as goal

abbrev pub invariant-loop-e : goal.invariant-loop-e
invariant-loop-e g l = record {
  edges : map edge_sight_of l.edges.items ≡ map (cell_edge (cell_at (g.C.CellList.cells l.cells) l.i).0 (cell_at (g.C.CellList.cells l.cells) l.i).1) (take l.e (enumerate_from 0 (edges_of l.poly)));
}
