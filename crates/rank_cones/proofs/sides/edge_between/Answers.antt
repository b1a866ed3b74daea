use Rattle.std.proofs.Common.{◌≡◌, ℕ, ◌<◌, false, List, [], ◌∷◌, length, get_or, sym, ap, ◌∙◌, arith}
use Rattle.std.specs.Prelude.{slice_index}
use Rattle.std.specs.List.{list_any}
use Rattle.std.proofs.lemmas.Bool.{both_ways}
use Rattle.std.proofs.lemmas.List.{take_all}
use Rattle.plain_lists.specs.Lists.{picked}
use Rattle.mesh_defs.specs.declared.Poly.TheVariants.{Segment}
use Rattle.mesh_defs.specs.Tables.{edges_of, edge_at}
use Rattle.mesh_defs.specs.Mesh.{Cell}
use Rattle.mesh_defs.specs.Points.{Point, Sight, same_point, point_on, shows, vertex_sight, cell_edges}
use Rattle.mesh_defs.specs.Diagram.{place_in}
use Rattle.mesh_laws.proofs.Firsts.{same_point-true}
use Rattle.local_points.specs.Cells.{cell_at}
use Rattle.local_points.specs.Points.{Local, edges_among, row_at}
use Rattle.rank_cones.proofs.Loops.{none-more}
use Rattle.rank_cones.proofs.Rows.{length-edges, edge-is_at, own-edge_place}
use Rattle.rank_cones.proofs.Polygons.{ends-at}
use Rattle.rank_cones.proofs.sides.edge_between.Goals as goal

pub returns-then-are_between : goal.returns-then-are_between
returns-then-are_between g c =
    let cells : List (ℕ × Cell) = g.C.CellList.cells c.args.cells.now in
    let cell : Cell = (cell_at cells c.args.i).1 in
    let e : ℕ = c.loop-e.e in
    let within : e < length (edges_of cell.poly) = omega (arith, c.loop-e-test.true, c.edge_count-e-end.ensures, ap (λ p. length (edges_of p)) c.poly-poly.ensures) in
    let from : c.edge_corner.result ≡ slice_index (edge_at cell.poly e) 0 = c.edge_corner.ensures ∙ ap (λ p. slice_index (edge_at p e) 0) c.poly-poly.ensures in
    let to : c.edge_corner-in-loop-e.result ≡ slice_index (edge_at cell.poly e) 1 = c.edge_corner-in-loop-e.ensures ∙ ap (λ p. slice_index (edge_at p e) 1) c.poly-poly.ensures in
    let ends : picked cell.vertices (edge_at cell.poly e) ≡ slice_index c.corners-corners.result.now c.edge_corner.result ∷ slice_index c.corners-corners.result.now c.edge_corner-in-loop-e.result ∷ [] =
    ends-at cell.vertices cell.poly e within ∙ (λ i. slice_index (sym c.corners-corners.ensures i) (sym from i) ∷ slice_index (sym c.corners-corners.ensures i) (sym to i) ∷ []) in
    let same = same_point-true (point_on Segment c.args.ends) (point_on Segment (slice_index c.corners-corners.result.now c.edge_corner.result ∷ slice_index c.corners-corners.result.now c.edge_corner-in-loop-e.result ∷ [])) (sym c.are_between.ensures ∙ c.if-are_between.true) in
    c.edge_of.ensures ∙ ap (λ (l : Local). slice_index (row_at l.edge_places c.args.i) e) c.requires.local ∙ own-edge_place cells c.args.i e c.requires.cell within
    ∙ ap (place_in (edges_among cells)) (ap (point_on Segment) ends ∙ sym same) ∙ ap (λ (l : Local). place_in l.edges (point_on Segment c.args.ends)) (sym c.requires.local)

pub loop-e-preserved : goal.loop-e-preserved
loop-e-preserved g c =
    let cells : List (ℕ × Cell) = g.C.CellList.cells c.args.cells.now in
    let n : ℕ = (cell_at cells c.args.i).0 in
    let cell : Cell = (cell_at cells c.args.i).1 in
    let e : ℕ = c.loop-e.e in
    let q : Point = point_on Segment c.args.ends in
    let within : e < length (edges_of cell.poly) = omega (arith, c.loop-e-test.true, c.edge_count-e-end.ensures, ap (λ p. length (edges_of p)) c.poly-poly.ensures) in
    let from : c.edge_corner.result ≡ slice_index (edge_at cell.poly e) 0 = c.edge_corner.ensures ∙ ap (λ p. slice_index (edge_at p e) 0) c.poly-poly.ensures in
    let to : c.edge_corner-in-loop-e.result ≡ slice_index (edge_at cell.poly e) 1 = c.edge_corner-in-loop-e.ensures ∙ ap (λ p. slice_index (edge_at p e) 1) c.poly-poly.ensures in
    let ends : picked cell.vertices (edge_at cell.poly e) ≡ slice_index c.corners-corners.result.now c.edge_corner.result ∷ slice_index c.corners-corners.result.now c.edge_corner-in-loop-e.result ∷ [] =
    ends-at cell.vertices cell.poly e within ∙ (λ i. slice_index (sym c.corners-corners.ensures i) (sym from i) ∷ slice_index (sym c.corners-corners.ensures i) (sym to i) ∷ []) in
    let other : shows q (get_or (cell_edges n cell) e (vertex_sight 0)) ≡ false = ap (shows q) (edge-is_at n cell e within) ∙ ap (λ l. same_point q (point_on Segment l)) ends ∙ sym c.are_between.ensures ∙ c.if-are_between.false in
    none-more (shows q) (cell_edges n cell) e (vertex_sight 0) (omega (arith, length-edges n cell, within)) c.loop-e.invariant other

pub unreachable-requires : goal.unreachable-requires
unreachable-requires g c =
    let cells : List (ℕ × Cell) = g.C.CellList.cells c.args.cells.now in
    let cell : ℕ × Cell = cell_at cells c.args.i in
    let edges : List Sight = cell_edges cell.0 cell.1 in
    let all = take_all c.loop-e.e edges (omega (arith, c.loop-e-test.false, c.edge_count-e-end.ensures, ap (λ p. length (edges_of p)) c.poly-poly.ensures, length-edges cell.0 cell.1)) in
    both_ways (list_any (shows (point_on Segment c.args.ends)) edges) (ap (list_any (shows (point_on Segment c.args.ends))) (sym all) ∙ c.loop-e.invariant) c.requires.there
