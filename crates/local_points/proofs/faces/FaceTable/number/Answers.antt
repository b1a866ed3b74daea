use Rattle.std.proofs.Common.{◌≡◌, List, [], ◌∷◌, ◌++◌, ◌+◌, map, length, get_or, take, sym, ap, ◌∙◌, arith}
use Rattle.std.proofs.lemmas.List.{length-map, length-take, map_more}
use Rattle.mesh_defs.specs.Points.{Sight, point_of}
use Rattle.mesh_defs.specs.Diagram.{firsts, place_in}
use Rattle.mesh_laws.proofs.Firsts.{firsts-length}
use Rattle.local_points.specs.declared.seen_faces.Face.{Face}
use Rattle.local_points.specs.Points.{with_sight, places_in}
use Rattle.local_points.specs.Stored.{face_sight_of}
use Rattle.local_points.proofs.Places.{firsts-with_sight, places-push}
use Rattle.local_points.proofs.faces.FaceTable.number.Goals as goal

pub place-requires-clause-few : goal.place-requires-clause-few
place-requires-clause-few c =
    let before = take c.loop-face.face-index c.args.seen.now in
    omega (arith, ap length c.loop-face.invariant.faces, firsts-length (map face_sight_of before), length-map before face_sight_of, length-take c.loop-face.face-index c.args.seen.now)

pub loop-face-preserved : goal.loop-face-preserved
loop-face-preserved c =
    let i = c.loop-face.face-index in
    let none : Face = record { key = 0; corners = [] } in
    let before = map face_sight_of (take i c.args.seen.now) in
    let s = face_sight_of (get_or c.args.seen.now i none) in
    let more : map face_sight_of (take (i + 1) c.args.seen.now) ≡ before ++ s ∷ [] = map_more face_sight_of c.args.seen.now i none c.loop-face-test.true in
    let table : c.place.new.self ≡ firsts (before ++ s ∷ []) =
    c.in_ok-place.ensures.ok ∙ ap (λ (l : List Sight). with_sight l s) c.loop-face.invariant.faces ∙ firsts-with_sight before s in
    let place : c.in_ok-place.field-0 ≡ place_in (firsts (before ++ s ∷ [])) (point_of s) =
    c.in_ok-place.ensures.place ∙ ap (λ (l : List Sight). place_in l (point_of s)) table in
    record {
      faces = table ∙ ap firsts (sym more);
      places = c.in_ok-push.ensures.items ∙ (λ j. c.loop-face.invariant.places j ++ place j ∷ [])
          ∙ places-push before s ∙ ap (λ l. places_in (firsts l) l) (sym more);
    }
