use Rattle.std.proofs.Common.{◌≡◌, map, take}
use Rattle.mesh_defs.specs.Diagram.{firsts}
use Rattle.local_points.specs.Points.{places_in}
use Rattle.local_points.specs.Stored.{face_sight_of}
use Rattle.local_points.proofs.faces.FaceTable.number.Given as goal

abbrev pub invariant-loop-face : goal.invariant-loop-face
invariant-loop-face l = record {
  faces : l.self ≡ firsts (map face_sight_of (take l.face-index l.seen));
  places : l.places.items ≡ places_in (firsts (map face_sight_of (take l.face-index l.seen))) (map face_sight_of (take l.face-index l.seen));
}
