-- Faces and edges as they are stored.
use Rattle.mesh_defs.specs.declared.Poly.TheVariants.{Segment}
use Rattle.mesh_defs.specs.Points.{Sight}
use Rattle.rank_cones.specs.held_points.Held.{face_on}
use Rattle.rank_cones.specs.declared.held_points.stored.HeldFace.{HeldFace}
use Rattle.rank_cones.specs.declared.held_points.stored.HeldEdge.{HeldEdge}

abbrev pub face_of : HeldFace → Sight
face_of f = face_on f.key f.corners

abbrev pub edge_of : HeldEdge → Sight
edge_of e = record { key = e.key; poly = Segment; arrangement = e.ends }
