use Rattle.std.proofs.Common.{◌≡◌, map, take}
use Rattle.plain_lists.specs.Lists.{picked}
use Rattle.mesh_defs.specs.Tables.{Facet, facets_of}
use Rattle.rank_laws.specs.diagram_laws.Strata.{entry_from}
use Rattle.local_points.specs.Cells.{cell_at}
use Rattle.rank_cones.proofs.cones.polygon_cone.Given as goal

abbrev pub invariant-loop-e : goal.invariant-loop-e
invariant-loop-e g l = l.cone.items ≡ map (λ (f : Facet). entry_from l.base l.held.edges f.poly (picked (cell_at (g.C.CellList.cells l.cells) l.i).1.vertices f.corners)) (take l.e (facets_of (cell_at (g.C.CellList.cells l.cells) l.i).1.poly))
