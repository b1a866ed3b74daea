use Rattle.std.proofs.Common.{◌≡◌, false, map, take}
use Rattle.std.specs.List.{list_any}
use Rattle.plain_lists.specs.Lists.{picked}
use Rattle.mesh_defs.specs.Tables.{Facet, facets_of}
use Rattle.mesh_defs.specs.Points.{cell_faces}
use Rattle.rank_laws.specs.diagram_laws.Strata.{entry_from}
use Rattle.local_points.specs.Cells.{cell_at}
use Rattle.rank_cones.specs.Placed.{is_twisted}
use Rattle.rank_cones.proofs.cones.solid_cone.Given as goal

abbrev pub invariant-loop-f : goal.invariant-loop-f
invariant-loop-f g l = record {
  cone : l.cone.items ≡ map (λ (f : Facet). entry_from l.base l.held.faces f.poly (picked (cell_at (g.C.CellList.cells l.cells) l.i).1.vertices f.corners)) (take l.f (facets_of (cell_at (g.C.CellList.cells l.cells) l.i).1.poly));
  untwisted : list_any (is_twisted l.held.faces) (take l.f (cell_faces (cell_at (g.C.CellList.cells l.cells) l.i).0 (cell_at (g.C.CellList.cells l.cells) l.i).1)) ≡ false;
}
