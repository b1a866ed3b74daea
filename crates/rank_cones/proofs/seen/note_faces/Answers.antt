use Rattle.std.proofs.Common.{◌≡◌, ℕ, ◌<◌, List, length, sym, ap, ◌∙◌, subst, ⊎_elim, arith}
use Rattle.std.specs.Prelude.{slice_index}
use Rattle.std.proofs.lemmas.Bool.{cases_lt}
use Rattle.std.proofs.lemmas.List.{length-set}
use Rattle.plain_lists.specs.Lists.{picked}
use Rattle.mesh_defs.specs.Tables.{dim_of, facets_of, facet_at}
use Rattle.mesh_defs.specs.Mesh.{Cell}
use Rattle.mesh_defs.specs.Points.{Sight, point_on}
use Rattle.mesh_defs.specs.Diagram.{place_in}
use Rattle.local_points.specs.Cells.{cell_at}
use Rattle.rank_cones.specs.Seen.{HasFace}
use Rattle.rank_cones.proofs.Rows.{face-rows, face-row_low, face-move_low, face-moved}
use Rattle.rank_cones.proofs.Seeing.{facet-within_faces, note-kept, note-made}
use Rattle.rank_cones.proofs.seen.note_faces.Goals as goal

pub face_of-requires-clause-cell : goal.face_of-requires-clause-cell
face_of-requires-clause-cell g c = face-rows (g.C.CellList.cells c.args.cells.now) c.args.local.now c.args.held.now c.requires.local c.requires.placed c.args.i c.requires.cell

pub face_of-requires-clause-face : goal.face_of-requires-clause-face
face_of-requires-clause-face g c =
    let solid : dim_of (cell_at (g.C.CellList.cells c.args.cells.now) c.args.i).1.poly ≡ 3 = ap dim_of (sym c.poly-poly.ensures) ∙ sym c.dim.ensures ∙ c.if-dim-ne3.false in
    let among : c.loop-f.f < length (facets_of (cell_at (g.C.CellList.cells c.args.cells.now) c.args.i).1.poly) = omega (arith, c.loop-f-test.true, c.facet_count-f-end.ensures, ap (λ p. length (facets_of p)) c.poly-poly.ensures) in
    face-row_low (g.C.CellList.cells c.args.cells.now) c.args.local.now c.args.held.now c.requires.local c.requires.placed c.args.i c.requires.cell solid c.loop-f.f among

pub face_move-k-requires : goal.face_move-k-requires
face_move-k-requires g c =
    let solid : dim_of (cell_at (g.C.CellList.cells c.args.cells.now) c.args.i).1.poly ≡ 3 = ap dim_of (sym c.poly-poly.ensures) ∙ sym c.dim.ensures ∙ c.if-dim-ne3.false in
    let among : c.loop-f.f < length (facets_of (cell_at (g.C.CellList.cells c.args.cells.now) c.args.i).1.poly) = omega (arith, c.loop-f-test.true, c.facet_count-f-end.ensures, ap (λ p. length (facets_of p)) c.poly-poly.ensures) in
    subst (λ n. n < length c.args.held.now.face_moves) (sym c.face_of.ensures) (face-move_low (g.C.CellList.cells c.args.cells.now) c.args.local.now c.args.held.now c.requires.local c.requires.placed c.args.i c.requires.cell solid c.loop-f.f among)

pub bounds-seeing-k : goal.bounds-seeing-k
bounds-seeing-k g c =
    let solid : dim_of (cell_at (g.C.CellList.cells c.args.cells.now) c.args.i).1.poly ≡ 3 = ap dim_of (sym c.poly-poly.ensures) ∙ sym c.dim.ensures ∙ c.if-dim-ne3.false in
    let among : c.loop-f.f < length (facets_of (cell_at (g.C.CellList.cells c.args.cells.now) c.args.i).1.poly) = omega (arith, c.loop-f-test.true, c.facet_count-f-end.ensures, ap (λ p. length (facets_of p)) c.poly-poly.ensures) in
    let moved = face-moved (g.C.CellList.cells c.args.cells.now) c.args.local.now c.args.held.now c.requires.local c.requires.placed c.args.i c.requires.cell solid c.loop-f.f among in
    let within = facet-within_faces c.args.held.now (g.C.CellList.cells c.args.cells.now) c.requires.placed.faces c.requires.solids c.args.i c.loop-f.f c.requires.cell solid among in
    omega (arith, c.face_move-k.ensures ∙ ap (slice_index c.args.held.now.face_moves) c.face_of.ensures ∙ moved, within, c.loop-f.invariant.count)

pub loop-f-preserved : goal.loop-f-preserved
loop-f-preserved g c =
    let cells : List (ℕ × Cell) = g.C.CellList.cells c.args.cells.now in
    let faces : List Sight = c.args.held.now.faces in
    let i : ℕ = c.args.i in
    let f : ℕ = c.loop-f.f in
    let cell : Cell = (cell_at cells i).1 in
    let solid : dim_of cell.poly ≡ 3 = ap dim_of (sym c.poly-poly.ensures) ∙ sym c.dim.ensures ∙ c.if-dim-ne3.false in
    let among : f < length (facets_of cell.poly) = omega (arith, c.loop-f-test.true, c.facet_count-f-end.ensures, ap (λ p. length (facets_of p)) c.poly-poly.ensures) in
    let place : ℕ → ℕ = λ j. place_in faces (point_on (facet_at cell.poly j).poly (picked cell.vertices (facet_at cell.poly j).corners)) in
    let at : c.face_move-k.result ≡ place f = c.face_move-k.ensures ∙ ap (slice_index c.args.held.now.face_moves) c.face_of.ensures ∙ face-moved cells c.args.local.now c.args.held.now c.requires.local c.requires.placed i c.requires.cell solid f among in
    let within = facet-within_faces c.args.held.now cells c.requires.placed.faces c.requires.solids i f c.requires.cell solid among in
    let low : c.face_move-k.result < length c.loop-f.seeing = omega (arith, at, within, c.loop-f.invariant.count) in
    let here : HasFace cells faces c.face_move-k.result i = record { cell = c.requires.cell; solid = solid; facet = f; among = among; place = at } in
    record {
      noted = λ k has below. ⊎_elim
          (λ (earlier : has.facet < f). note-kept (HasFace cells faces) c.loop-f.seeing c.face_move-k.result i low here k (c.loop-f.invariant.noted k has earlier))
          (λ now. let same : has.facet ≡ f = omega (arith, below, now) in note-made (HasFace cells faces) c.loop-f.seeing c.face_move-k.result i low here k (has.place ∙ ap place same ∙ sym at))
          (cases_lt has.facet f);
      kept = λ k before. note-kept (HasFace cells faces) c.loop-f.seeing c.face_move-k.result i low here k (c.loop-f.invariant.kept k before);
      count = length-set c.loop-f.seeing c.face_move-k.result i ∙ c.loop-f.invariant.count;
    }

pub returns-clause-noted : goal.returns-clause-noted
returns-clause-noted g c k has = c.loop-f.invariant.noted k has (omega (arith, has.among, c.loop-f-test.false, c.facet_count-f-end.ensures, ap (λ p. length (facets_of p)) c.poly-poly.ensures))
