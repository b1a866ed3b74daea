use Rattle.std.proofs.Common.{◌≡◌, false, take}
use Rattle.std.specs.List.{list_any}
use Rattle.mesh_defs.specs.declared.Poly.TheVariants.{Segment}
use Rattle.mesh_defs.specs.Points.{point_on, shows, cell_edges}
use Rattle.local_points.specs.Cells.{cell_at}
use Rattle.rank_cones.proofs.sides.edge_between.Given as goal

-- none of the edges so far is the one
abbrev pub invariant-loop-e : goal.invariant-loop-e
invariant-loop-e g l = list_any (shows (point_on Segment l.ends)) (take l.e (cell_edges (cell_at (g.C.CellList.cells l.cells) l.i).0 (cell_at (g.C.CellList.cells l.cells) l.i).1)) ≡ false
