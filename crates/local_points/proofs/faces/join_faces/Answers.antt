use Rattle.std.proofs.Common.{◌≡◌, ℕ, map, length, ap, ◌∙◌, arith}
use Rattle.std.proofs.lemmas.List.{length-map}
use Rattle.mesh_defs.specs.Mesh.{Cell}
use Rattle.mesh_defs.specs.Points.{point_of, cell_faces}
use Rattle.mesh_defs.specs.Diagram.{firsts, place_in}
use Rattle.local_points.specs.Cells.{faces_seen}
use Rattle.local_points.specs.Rows.{rows}
use Rattle.local_points.specs.Points.{places_in, faces_among}
use Rattle.local_points.specs.Stored.{face_sight_of}
use Rattle.local_points.proofs.Solids.{length-faces_seen}
use Rattle.local_points.proofs.Rows.{rows-of_cells}
use Rattle.local_points.proofs.faces.join_faces.Goals as goal

pub number-requires-clause-few : goal.number-requires-clause-few
number-requires-clause-few g c =
    let cells = g.C.CellList.cells c.args.cells.now in
    let seen = c.in_ok-seen.seen.items in
    omega (arith, ap length c.deref.ensures.value, length-map seen face_sight_of, ap length c.in_ok-seen.ensures.faces, length-faces_seen cells, c.requires.few)

pub returns-clause-places : goal.returns-clause-places
returns-clause-places g c =
    let cells = g.C.CellList.cells c.args.cells.now in
    let seen : map face_sight_of c.deref.result.now ≡ faces_seen cells = ap (map face_sight_of) c.deref.ensures.value ∙ c.in_ok-seen.ensures.faces in
    let table : c.number.new.self ≡ faces_among cells = c.in_ok-places.ensures.faces ∙ ap firsts seen in
    let places : c.in_ok-places.places.items ≡ places_in (faces_among cells) (faces_seen cells) = c.in_ok-places.ensures.places ∙ (λ i. places_in (table i) (seen i)) in
    c.new.ensures ∙ (λ i. rows (places i) (c.in_ok-firsts.ensures i))
    ∙ rows-of_cells (λ (d : ℕ × Cell). cell_faces d.0 d.1) (λ s. place_in (faces_among cells) (point_of s)) cells
