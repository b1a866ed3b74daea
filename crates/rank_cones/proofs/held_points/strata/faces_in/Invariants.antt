use Rattle.std.proofs.Common.{◌≡◌, map, take}
use Rattle.rank_cones.specs.held_points.Held.{face_on, given_point}
use Rattle.rank_cones.specs.held_points.Stored.{face_of}
use Rattle.rank_cones.proofs.held_points.strata.faces_in.Given as goal

abbrev pub invariant-loop-place : goal.invariant-loop-place
invariant-loop-place l = map face_of l.faces.items ≡ map (given_point face_on l.keys l.lists) (take l.place-index l.order)
