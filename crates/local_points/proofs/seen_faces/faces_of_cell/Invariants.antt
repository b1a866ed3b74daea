use Rattle.std.proofs.Common.{◌≡◌, map, take}
use Rattle.std.specs.List.{AllByRecursion, enumerate_from}
use Rattle.mesh_defs.specs.Tables.{facets_of}
use Rattle.mesh_defs.specs.Points.{cell_face}
use Rattle.local_points.specs.Cells.{cell_at}
use Rattle.local_points.specs.Stored.{IsFace, face_sight_of}
use Rattle.local_points.proofs.seen_faces.faces_of_cell.Given as goal

abbrev pub invariant-loop-f : goal.invariant-loop-f
invariant-loop-f g l = record {
  sound : AllByRecursion IsFace l.faces.items;
  faces : map face_sight_of l.faces.items ≡ map (cell_face (cell_at (g.C.CellList.cells l.cells) l.i).0 (cell_at (g.C.CellList.cells l.cells) l.i).1) (take l.f (enumerate_from 0 (facets_of l.poly)));
}
