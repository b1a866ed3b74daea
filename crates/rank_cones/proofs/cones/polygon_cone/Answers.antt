use Rattle.std.proofs.Common.{◌<◌, [], ◌∷◌, ◌++◌, map, length, sym, ap, ◌∙◌, arith}
use Rattle.std.proofs.lemmas.List.{map_more, take_all}
use Rattle.plain_lists.specs.Lists.{picked}
use Rattle.mesh_defs.specs.declared.Poly.TheVariants.{Vertex}
use Rattle.mesh_defs.specs.Tables.{Facet, facets_of, edges_of}
use Rattle.mesh_defs.specs.Mesh.{Cell}
use Rattle.rank_laws.specs.diagram_laws.Strata.{entry_from}
use Rattle.local_points.specs.Cells.{cell_at}
use Rattle.rank_cones.proofs.Polygons.{length-sides, side-facet}
use Rattle.rank_cones.proofs.cones.polygon_cone.Goals as goal

pub loop-e-preserved : goal.loop-e-preserved
loop-e-preserved g c =
    let cell : Cell = (cell_at (g.C.CellList.cells c.args.cells.now) c.args.i).1 in
    let e = c.loop-e.e in
    let two = c.requires.flat.dim_is in
    let within : e < length (edges_of cell.poly) = omega (arith, c.loop-e-test.true, c.edge_count-e-end.ensures, ap (λ p. length (edges_of p)) c.poly.ensures) in
    let entry-of = λ (f : Facet). entry_from c.args.base c.args.held.now.edges f.poly (picked cell.vertices f.corners) in
    let entry = c.cell_side.ensures ∙ ap entry-of (sym (side-facet cell.poly e two within)) in
    c.in_ok-push.ensures.items ∙ (λ i. c.loop-e.invariant i ++ entry i ∷ []) ∙ sym (map_more entry-of (facets_of cell.poly) e (record { poly = Vertex; corners = [] }) (omega (arith, within, length-sides cell.poly two)))

pub returns : goal.returns
returns g c =
    let cell : Cell = (cell_at (g.C.CellList.cells c.args.cells.now) c.args.i).1 in
    let two = c.requires.flat.dim_is in
    c.loop-e.invariant ∙ ap (map (λ (f : Facet). entry_from c.args.base c.args.held.now.edges f.poly (picked cell.vertices f.corners))) (take_all c.loop-e.e (facets_of cell.poly) (omega (arith, c.loop-e-test.false, c.edge_count-e-end.ensures, ap (λ p. length (edges_of p)) c.poly.ensures, length-sides cell.poly two)))
