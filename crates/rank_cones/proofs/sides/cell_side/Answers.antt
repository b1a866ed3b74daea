use Rattle.std.proofs.Common.{◌≡◌, ℕ, ◌<◌, List, [], ◌∷◌, length, sym, ap, ◌∙◌, subst}
use Rattle.std.specs.Prelude.{slice_index}
use Rattle.std.specs.List.{list_any, position_or_len}
use Rattle.plain_lists.specs.Lists.{picked}
use Rattle.mesh_defs.specs.declared.Poly.TheVariants.{Segment}
use Rattle.mesh_defs.specs.Tables.{edge_at}
use Rattle.mesh_defs.specs.Mesh.{Cell}
use Rattle.mesh_defs.specs.Points.{Sight, point_on, shows}
use Rattle.rank_laws.specs.diagram_laws.Strata.{entry_from}
use Rattle.local_points.specs.Cells.{cell_at}
use Rattle.rank_cones.proofs.Rows.{edge-rows, edge-row_low, edge-move_low, edge-moved}
use Rattle.rank_cones.proofs.Polygons.{ends-at, ends-differ, side-there}
use Rattle.rank_cones.proofs.sides.cell_side.Goals as goal

pub edge_of-requires-clause-cell : goal.edge_of-requires-clause-cell
edge_of-requires-clause-cell g c = edge-rows (g.C.CellList.cells c.args.cells.now) c.args.local.now c.args.held.now c.requires.local c.requires.placed c.args.i c.requires.cell

pub edge_of-requires-clause-edge : goal.edge_of-requires-clause-edge
edge_of-requires-clause-edge g c = edge-row_low (g.C.CellList.cells c.args.cells.now) c.args.local.now c.args.held.now c.requires.local c.requires.placed c.args.i c.requires.cell c.args.e c.requires.edge

pub edge_move-requires : goal.edge_move-requires
edge_move-requires g c = subst (λ n. n < length c.args.held.now.edge_moves) (sym c.edge_of.ensures) (edge-move_low (g.C.CellList.cells c.args.cells.now) c.args.local.now c.args.held.now c.requires.local c.requires.placed c.args.i c.requires.cell c.args.e c.requires.edge)

pub edge_entry-requires-clause-place : goal.edge_entry-requires-clause-place
edge_entry-requires-clause-place g c =
    let cells : List (ℕ × Cell) = g.C.CellList.cells c.args.cells.now in
    let edges : List Sight = c.args.held.now.edges in
    let cell : Cell = (cell_at cells c.args.i).1 in
    let flat = c.requires.flat in
    let from : c.edge_corner.result ≡ slice_index (edge_at cell.poly c.args.e) 0 = c.edge_corner.ensures ∙ ap (λ p. slice_index (edge_at p c.args.e) 0) c.poly-poly.ensures in
    let to : c.edge_corner-2.result ≡ slice_index (edge_at cell.poly c.args.e) 1 = c.edge_corner-2.ensures ∙ ap (λ p. slice_index (edge_at p c.args.e) 1) c.poly-poly.ensures in
    let ends : picked cell.vertices (edge_at cell.poly c.args.e) ≡ slice_index c.corners-corners.result.now c.edge_corner.result ∷ slice_index c.corners-corners.result.now c.edge_corner-2.result ∷ [] =
    ends-at cell.vertices cell.poly c.args.e c.requires.edge ∙ (λ i. slice_index (sym c.corners-corners.ensures i) (sym from i) ∷ slice_index (sym c.corners-corners.ensures i) (sym to i) ∷ []) in
    c.edge_move.ensures ∙ ap (slice_index c.args.held.now.edge_moves) c.edge_of.ensures
    ∙ edge-moved cells c.args.local.now c.args.held.now c.requires.local c.requires.placed c.args.i c.requires.cell c.args.e c.requires.edge
    ∙ ap (λ l. position_or_len (shows (point_on Segment l)) edges) ends

pub edge_entry-requires-clause-shown : goal.edge_entry-requires-clause-shown
edge_entry-requires-clause-shown g c =
    let cells : List (ℕ × Cell) = g.C.CellList.cells c.args.cells.now in
    let edges : List Sight = c.args.held.now.edges in
    let cell : Cell = (cell_at cells c.args.i).1 in
    let flat = c.requires.flat in
    let from : c.edge_corner.result ≡ slice_index (edge_at cell.poly c.args.e) 0 = c.edge_corner.ensures ∙ ap (λ p. slice_index (edge_at p c.args.e) 0) c.poly-poly.ensures in
    let to : c.edge_corner-2.result ≡ slice_index (edge_at cell.poly c.args.e) 1 = c.edge_corner-2.ensures ∙ ap (λ p. slice_index (edge_at p c.args.e) 1) c.poly-poly.ensures in
    let ends : picked cell.vertices (edge_at cell.poly c.args.e) ≡ slice_index c.corners-corners.result.now c.edge_corner.result ∷ slice_index c.corners-corners.result.now c.edge_corner-2.result ∷ [] =
    ends-at cell.vertices cell.poly c.args.e c.requires.edge ∙ (λ i. slice_index (sym c.corners-corners.ensures i) (sym from i) ∷ slice_index (sym c.corners-corners.ensures i) (sym to i) ∷ []) in
    ap (λ l. list_any (shows (point_on Segment l)) edges) (sym ends) ∙ side-there edges cell.poly cell.vertices flat.dim_is flat.facets c.args.e c.requires.edge

pub edge_entry-requires-clause-apart : goal.edge_entry-requires-clause-apart
edge_entry-requires-clause-apart g c same =
    let cells : List (ℕ × Cell) = g.C.CellList.cells c.args.cells.now in
    let edges : List Sight = c.args.held.now.edges in
    let cell : Cell = (cell_at cells c.args.i).1 in
    let flat = c.requires.flat in
    let from : c.edge_corner.result ≡ slice_index (edge_at cell.poly c.args.e) 0 = c.edge_corner.ensures ∙ ap (λ p. slice_index (edge_at p c.args.e) 0) c.poly-poly.ensures in
    let to : c.edge_corner-2.result ≡ slice_index (edge_at cell.poly c.args.e) 1 = c.edge_corner-2.ensures ∙ ap (λ p. slice_index (edge_at p c.args.e) 1) c.poly-poly.ensures in
    let ends : picked cell.vertices (edge_at cell.poly c.args.e) ≡ slice_index c.corners-corners.result.now c.edge_corner.result ∷ slice_index c.corners-corners.result.now c.edge_corner-2.result ∷ [] =
    ends-at cell.vertices cell.poly c.args.e c.requires.edge ∙ (λ i. slice_index (sym c.corners-corners.ensures i) (sym from i) ∷ slice_index (sym c.corners-corners.ensures i) (sym to i) ∷ []) in
    ends-differ cell.vertices cell.poly c.args.e flat.list.long flat.list.different c.requires.edge ((λ i. slice_index (sym c.corners-corners.ensures i) (sym from i)) ∙ same ∙ (λ i. slice_index (c.corners-corners.ensures i) (to i)))

pub returns : goal.returns
returns g c =
    let cells : List (ℕ × Cell) = g.C.CellList.cells c.args.cells.now in
    let edges : List Sight = c.args.held.now.edges in
    let cell : Cell = (cell_at cells c.args.i).1 in
    let flat = c.requires.flat in
    let from : c.edge_corner.result ≡ slice_index (edge_at cell.poly c.args.e) 0 = c.edge_corner.ensures ∙ ap (λ p. slice_index (edge_at p c.args.e) 0) c.poly-poly.ensures in
    let to : c.edge_corner-2.result ≡ slice_index (edge_at cell.poly c.args.e) 1 = c.edge_corner-2.ensures ∙ ap (λ p. slice_index (edge_at p c.args.e) 1) c.poly-poly.ensures in
    let ends : picked cell.vertices (edge_at cell.poly c.args.e) ≡ slice_index c.corners-corners.result.now c.edge_corner.result ∷ slice_index c.corners-corners.result.now c.edge_corner-2.result ∷ [] =
    ends-at cell.vertices cell.poly c.args.e c.requires.edge ∙ (λ i. slice_index (sym c.corners-corners.ensures i) (sym from i) ∷ slice_index (sym c.corners-corners.ensures i) (sym to i) ∷ []) in
    c.edge_entry.ensures ∙ ap (entry_from c.args.base edges Segment) (sym ends)
