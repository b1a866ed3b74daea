use Rattle.std.proofs.Common.{◌≡◌, ◌++◌, take}
use Rattle.local_points.specs.Points.{row_at}
use Rattle.rank_laws.specs.cell_laws.Cells.{places_from}
use Rattle.interp_share.proofs.part_weights.places.push_faces.Given as goal

-- the faces up to here
abbrev pub invariant-loop-f : goal.invariant-loop-f
invariant-loop-f l = l.places.items ≡ l.initial.places.items ++ places_from l.base (take l.f (row_at l.local.face_places l.i))
