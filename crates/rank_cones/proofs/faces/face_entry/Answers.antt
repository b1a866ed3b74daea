use Rattle.std.proofs.Common.{◌≡◌, ℕ, ◌+◌, ◌*◌, w8, List, length, pos, Some, sym, ap, ◌∙◌, subst, subst₂, ◌<◌, arith, rules}
use Rattle.std.specs.Prelude.{slice_index, unwrap_or}
use Rattle.std.specs.List.{AllByRecursion, slice_get}
use Rattle.std.proofs.lemmas.Int.{to_z-of_z}
use mir.Val.{SFits, to_z, of_z}
use Rattle.plain_lists.specs.Lists.{picked}
use Rattle.plain_lists.proofs.Finding.{position-within}
use Rattle.mesh_defs.specs.Tables.{facet_at, corner_count}
use Rattle.mesh_defs.specs.Orientation.{relative}
use Rattle.mesh_defs.specs.Mesh.{Cell}
use Rattle.mesh_defs.specs.Points.{Sight, point_on, shows}
use Rattle.mesh_defs.specs.Diagram.{place_in}
use Rattle.local_points.specs.Cells.{cell_at}
use Rattle.rank_laws.specs.diagram_laws.Strata.{entry_from, turn_among}
use Rattle.rank_cones.proofs.Rows.{face-rows, face-row_low, face-move_low, face-moved}
use Rattle.rank_cones.proofs.FaceRows.{facet-shown, facet-within, own-long, own-differ, own-turn}
use Rattle.rank_cones.proofs.faces.face_entry.Goals as goal

pub list_facet-requires-clause-within : goal.list_facet-requires-clause-within
list_facet-requires-clause-within g c =
    let cells : List (ℕ × Cell) = g.C.CellList.cells c.args.cells.now in
    let within = facet-within c.args.held.now.faces c.requires.placed.faces (cell_at cells c.args.i).1 c.requires.solid c.args.f c.requires.face in
    subst₂ (λ p vs. AllByRecursion (λ k. k < length vs) (facet_at p c.args.f).corners) (sym c.poly-poly.ensures) (sym c.corners.ensures) within

pub face_of-requires-clause-cell : goal.face_of-requires-clause-cell
face_of-requires-clause-cell g c = face-rows (g.C.CellList.cells c.args.cells.now) c.args.local.now c.args.held.now c.requires.local c.requires.placed c.args.i c.requires.cell

pub face_of-requires-clause-face : goal.face_of-requires-clause-face
face_of-requires-clause-face g c = face-row_low (g.C.CellList.cells c.args.cells.now) c.args.local.now c.args.held.now c.requires.local c.requires.placed c.args.i c.requires.cell c.requires.solid.dim_is c.args.f c.requires.face

pub face_move-k-requires : goal.face_move-k-requires
face_move-k-requires g c = subst (λ n. n < length c.args.held.now.face_moves) (sym c.face_of.ensures) (face-move_low (g.C.CellList.cells c.args.cells.now) c.args.local.now c.args.held.now c.requires.local c.requires.placed c.args.i c.requires.cell c.requires.solid.dim_is c.args.f c.requires.face)

pub face-requires : goal.face-requires
face-requires g c =
    let cells : List (ℕ × Cell) = g.C.CellList.cells c.args.cells.now in
    let faces : List Sight = c.args.held.now.faces in
    let cell : Cell = (cell_at cells c.args.i).1 in
    let facet = facet_at cell.poly c.args.f in
    let list : List ℕ = picked cell.vertices facet.corners in
    let solid = c.requires.solid in
    let shown = facet-shown faces c.requires.placed.faces cell solid c.args.f c.requires.face in
    let k : c.face_move-k.result ≡ place_in faces (point_on facet.poly list) =
    c.face_move-k.ensures ∙ ap (slice_index c.args.held.now.face_moves) c.face_of.ensures ∙ face-moved cells c.args.local.now c.args.held.now c.requires.local c.requires.placed c.args.i c.requires.cell solid.dim_is c.args.f c.requires.face in
    omega (arith, k, position-within (shows (point_on facet.poly list)) faces shown)

pub overflow_add-result : goal.overflow_add-result
overflow_add-result g c =
    let cells : List (ℕ × Cell) = g.C.CellList.cells c.args.cells.now in
    let faces : List Sight = c.args.held.now.faces in
    let cell : Cell = (cell_at cells c.args.i).1 in
    let facet = facet_at cell.poly c.args.f in
    let list : List ℕ = picked cell.vertices facet.corners in
    let solid = c.requires.solid in
    let shown = facet-shown faces c.requires.placed.faces cell solid c.args.f c.requires.face in
    let k : c.face_move-k.result ≡ place_in faces (point_on facet.poly list) =
    c.face_move-k.ensures ∙ ap (slice_index c.args.held.now.face_moves) c.face_of.ensures ∙ face-moved cells c.args.local.now c.args.held.now c.requires.local c.requires.placed c.args.i c.requires.cell solid.dim_is c.args.f c.requires.face in
    omega (arith, k, position-within (shows (point_on facet.poly list)) faces shown, c.requires.room)

pub relative-requires-clause-from_corners : goal.relative-requires-clause-from_corners
relative-requires-clause-from_corners g c =
    let cells : List (ℕ × Cell) = g.C.CellList.cells c.args.cells.now in
    let faces : List Sight = c.args.held.now.faces in
    let cell : Cell = (cell_at cells c.args.i).1 in
    let facet = facet_at cell.poly c.args.f in
    let list : List ℕ = picked cell.vertices facet.corners in
    let solid = c.requires.solid in
    let shown = facet-shown faces c.requires.placed.faces cell solid c.args.f c.requires.face in
    let k : c.face_move-k.result ≡ place_in faces (point_on facet.poly list) =
    c.face_move-k.ensures ∙ ap (slice_index c.args.held.now.face_moves) c.face_of.ensures ∙ face-moved cells c.args.local.now c.args.held.now c.requires.local c.requires.placed c.args.i c.requires.cell solid.dim_is c.args.f c.requires.face in
    let own : Sight = record { key = c.face.result.0.0; poly = c.face.result.1; arrangement = c.face.result.2.now } in
    let there : slice_get faces (place_in faces (point_on facet.poly list)) ≡ Some own = ap (slice_get faces) (sym k) ∙ c.face.ensures in
    let face : c.facet_poly-face.result ≡ facet.poly = c.facet_poly-face.ensures ∙ ap (λ p. (facet_at p c.args.f).poly) c.poly-poly.ensures in
    own-long faces c.requires.placed.faces cell solid c.args.f c.requires.face own there ∙ ap corner_count (sym face)

pub relative-requires-clause-differ : goal.relative-requires-clause-differ
relative-requires-clause-differ g c =
    let cells : List (ℕ × Cell) = g.C.CellList.cells c.args.cells.now in
    let faces : List Sight = c.args.held.now.faces in
    let cell : Cell = (cell_at cells c.args.i).1 in
    let facet = facet_at cell.poly c.args.f in
    let list : List ℕ = picked cell.vertices facet.corners in
    let solid = c.requires.solid in
    let shown = facet-shown faces c.requires.placed.faces cell solid c.args.f c.requires.face in
    let k : c.face_move-k.result ≡ place_in faces (point_on facet.poly list) =
    c.face_move-k.ensures ∙ ap (slice_index c.args.held.now.face_moves) c.face_of.ensures ∙ face-moved cells c.args.local.now c.args.held.now c.requires.local c.requires.placed c.args.i c.requires.cell solid.dim_is c.args.f c.requires.face in
    let own : Sight = record { key = c.face.result.0.0; poly = c.face.result.1; arrangement = c.face.result.2.now } in
    let there : slice_get faces (place_in faces (point_on facet.poly list)) ≡ Some own = ap (slice_get faces) (sym k) ∙ c.face.ensures in
    let face : c.facet_poly-face.result ≡ facet.poly = c.facet_poly-face.ensures ∙ ap (λ p. (facet_at p c.args.f).poly) c.poly-poly.ensures in
    own-differ faces c.requires.placed.faces cell solid c.args.f c.requires.face own there

pub returns-in-Some : goal.returns-in-Some
unfolding entry_from
returns-in-Some g c =
    let cells : List (ℕ × Cell) = g.C.CellList.cells c.args.cells.now in
    let faces : List Sight = c.args.held.now.faces in
    let cell : Cell = (cell_at cells c.args.i).1 in
    let facet = facet_at cell.poly c.args.f in
    let list : List ℕ = picked cell.vertices facet.corners in
    let solid = c.requires.solid in
    let shown = facet-shown faces c.requires.placed.faces cell solid c.args.f c.requires.face in
    let k : c.face_move-k.result ≡ place_in faces (point_on facet.poly list) =
    c.face_move-k.ensures ∙ ap (slice_index c.args.held.now.face_moves) c.face_of.ensures ∙ face-moved cells c.args.local.now c.args.held.now c.requires.local c.requires.placed c.args.i c.requires.cell solid.dim_is c.args.f c.requires.face in
    let own : Sight = record { key = c.face.result.0.0; poly = c.face.result.1; arrangement = c.face.result.2.now } in
    let there : slice_get faces (place_in faces (point_on facet.poly list)) ≡ Some own = ap (slice_get faces) (sym k) ∙ c.face.ensures in
    let face : c.facet_poly-face.result ≡ facet.poly = c.facet_poly-face.ensures ∙ ap (λ p. (facet_at p c.args.f).poly) c.poly-poly.ensures in
    let seen : c.list_facet.new.seen ≡ list = c.list_facet.ensures ∙ (λ i. picked (c.corners.ensures i) (facet_at (c.poly-poly.ensures i) c.args.f).corners) in
    let fits : SFits w8 c.in-Some.o = search rules in
    let o : to_z w8 (of_z w8 c.in-Some.o) ≡ c.in-Some.o = to_z-of_z w8 c.in-Some.o fits in
    let turn : turn_among faces facet.poly list ≡ Some (to_z w8 (of_z w8 c.in-Some.o)) =
    own-turn faces c.requires.placed.faces cell solid c.args.f c.requires.face own there
    ∙ (λ i. relative (sym face i) own.arrangement (sym seen i)) ∙ sym c.in-Some.ensures.value ∙ ap (λ z. Some z) (sym o) in
    ((λ i. record { point = c.args.base + k i; o = unwrap_or (sym turn i) (pos 0) }), turn)

pub returns-in-None : goal.returns-in-None
returns-in-None g c =
    let cells : List (ℕ × Cell) = g.C.CellList.cells c.args.cells.now in
    let faces : List Sight = c.args.held.now.faces in
    let cell : Cell = (cell_at cells c.args.i).1 in
    let facet = facet_at cell.poly c.args.f in
    let list : List ℕ = picked cell.vertices facet.corners in
    let solid = c.requires.solid in
    let shown = facet-shown faces c.requires.placed.faces cell solid c.args.f c.requires.face in
    let k : c.face_move-k.result ≡ place_in faces (point_on facet.poly list) =
    c.face_move-k.ensures ∙ ap (slice_index c.args.held.now.face_moves) c.face_of.ensures ∙ face-moved cells c.args.local.now c.args.held.now c.requires.local c.requires.placed c.args.i c.requires.cell solid.dim_is c.args.f c.requires.face in
    let own : Sight = record { key = c.face.result.0.0; poly = c.face.result.1; arrangement = c.face.result.2.now } in
    let there : slice_get faces (place_in faces (point_on facet.poly list)) ≡ Some own = ap (slice_get faces) (sym k) ∙ c.face.ensures in
    let face : c.facet_poly-face.result ≡ facet.poly = c.facet_poly-face.ensures ∙ ap (λ p. (facet_at p c.args.f).poly) c.poly-poly.ensures in
    let seen : c.list_facet.new.seen ≡ list = c.list_facet.ensures ∙ (λ i. picked (c.corners.ensures i) (facet_at (c.poly-poly.ensures i) c.args.f).corners) in
    let number : c.number.result ≡ (cell_at cells c.args.i).0 = c.number.ensures in (
      c.of_face.ensures ∙ ap (λ n. 64 * n + 1 + c.args.f) number,
      own-turn faces c.requires.placed.faces cell solid c.args.f c.requires.face own there
          ∙ (λ i. relative (sym face i) own.arrangement (sym seen i)) ∙ sym c.in-None.ensures.value,
    )
