use Rattle.std.proofs.Common.{◌≡◌, ℕ, ◌<◌, true, List, [], ◌∷◌, length, sym, ap, ◌∙◌, subst}
use Rattle.std.specs.Prelude.{slice_index}
use Rattle.std.specs.List.{list_any}
use Rattle.mesh_defs.specs.declared.Poly.TheVariants.{Segment}
use Rattle.mesh_defs.specs.Mesh.{Cell}
use Rattle.mesh_defs.specs.Points.{Point, Sight, point_on, shows}
use Rattle.rank_laws.specs.diagram_laws.Strata.{entry_from}
use Rattle.local_points.specs.Cells.{cell_at}
use Rattle.local_points.specs.Points.{Local}
use Rattle.rank_cones.proofs.Rows.{edge-own, found-moved}
use Rattle.rank_cones.proofs.FaceSides.{ends-are, side-apart, side-shown, side-seen}
use Rattle.rank_cones.proofs.sides.face_side.Goals as goal

pub edge_between-own-requires-clause-there : goal.edge_between-own-requires-clause-there
edge_between-own-requires-clause-there g c = side-seen c.args.held.now.faces c.requires.placed.faces c.requires.face c.requires.side c.face-face.ensures c.edge_corner.ensures c.edge_corner-2.ensures (cell_at (g.C.CellList.cells c.args.cells.now) c.args.i) c.requires.seen

pub edge_move-requires : goal.edge_move-requires
edge_move-requires g c =
    let cells : List (ℕ × Cell) = g.C.CellList.cells c.args.cells.now in
    let q : Point = point_on Segment (slice_index c.face-face.result.2.now c.edge_corner.result ∷ slice_index c.face-face.result.2.now c.edge_corner-2.result ∷ []) in
    let seen = side-seen c.args.held.now.faces c.requires.placed.faces c.requires.face c.requires.side c.face-face.ensures c.edge_corner.ensures c.edge_corner-2.ensures (cell_at cells c.args.i) c.requires.seen in
    let own : list_any (shows q) c.args.local.now.edges ≡ true = ap (λ (l : Local). list_any (shows q) l.edges) c.requires.local ∙ edge-own cells c.args.i q c.requires.cell seen in
    subst (λ n. n < length c.args.held.now.edge_moves) (sym c.edge_between-own.ensures) (found-moved c.args.local.now c.args.held.now c.requires.placed q own).0

pub edge_entry-requires-clause-place : goal.edge_entry-requires-clause-place
edge_entry-requires-clause-place g c =
    let cells : List (ℕ × Cell) = g.C.CellList.cells c.args.cells.now in
    let q : Point = point_on Segment (slice_index c.face-face.result.2.now c.edge_corner.result ∷ slice_index c.face-face.result.2.now c.edge_corner-2.result ∷ []) in
    let seen = side-seen c.args.held.now.faces c.requires.placed.faces c.requires.face c.requires.side c.face-face.ensures c.edge_corner.ensures c.edge_corner-2.ensures (cell_at cells c.args.i) c.requires.seen in
    let own : list_any (shows q) c.args.local.now.edges ≡ true = ap (λ (l : Local). list_any (shows q) l.edges) c.requires.local ∙ edge-own cells c.args.i q c.requires.cell seen in
    c.edge_move.ensures ∙ ap (slice_index c.args.held.now.edge_moves) c.edge_between-own.ensures ∙ (found-moved c.args.local.now c.args.held.now c.requires.placed q own).1

pub edge_entry-requires-clause-shown : goal.edge_entry-requires-clause-shown
edge_entry-requires-clause-shown g c = side-shown c.args.held.now.faces c.requires.placed.faces c.requires.face c.requires.side c.face-face.ensures c.edge_corner.ensures c.edge_corner-2.ensures c.args.held.now.edges c.requires.sides

pub edge_entry-requires-clause-apart : goal.edge_entry-requires-clause-apart
edge_entry-requires-clause-apart g c = side-apart c.args.held.now.faces c.requires.placed.faces c.requires.face c.requires.side c.face-face.ensures c.edge_corner.ensures c.edge_corner-2.ensures

pub returns : goal.returns
returns g c =
    let edges : List Sight = c.args.held.now.edges in
    c.edge_entry.ensures ∙ ap (entry_from c.args.base edges Segment) (sym (ends-are c.args.held.now.faces c.requires.placed.faces c.requires.face c.requires.side c.face-face.ensures c.edge_corner.ensures c.edge_corner-2.ensures))
