use Rattle.std.proofs.Common.{◌≡◌, ◌++◌, map, take}
use Rattle.rank_laws.specs.cell_laws.Cells.{places_from}
use Rattle.interp_share.specs.part_weights.Places.{vertex_place}
use Rattle.interp_share.proofs.part_weights.places.push_vertices.Given as goal

-- the vertices up to here
abbrev pub invariant-loop-v : goal.invariant-loop-v
invariant-loop-v l = l.places.items ≡ l.initial.places.items ++ places_from l.base (map (vertex_place l.vertices) (take l.v-index l.corners))
