-- What a rank sees of its cells, and the points that it has.
use Rattle.std.specs.Prelude.{ℕ, ◌≤◌, List, ◌++◌, length, map}
use Rattle.mesh_defs.specs.Mesh.{Cell}
use Rattle.mesh_defs.specs.Points.{Sight, point_of, cell_sight, vertex_sight}
use Rattle.local_points.specs.Points.{Local, faces_among, edges_among, local_points}
use Rattle.rank_defs.specs.Spread.{ScatterPart}
use Rattle.rank_chart_laws.specs.OwnRanks.{set_of}

-- ---- what is seen

-- the faces and edges, and where each cell has them; the vertices of the faces and then of the edges as filled sets
pub record Seen : Type 0 where
  pub local : Local
  pub sets : List (List ℕ)

-- of some cells
unfoldable pub seen_of : List (ℕ × Cell) → Seen
seen_of cells = record { local = local_points cells; sets = map set_of (faces_among cells ++ edges_among cells) }

-- of the cells of each rank
abbrev pub all_seen : List ScatterPart → List Seen
all_seen parts = map (λ (part : ScatterPart). seen_of part.cells) parts

-- ---- points

-- cells as they see themselves
abbrev pub cell_sights : List (ℕ × Cell) → List Sight
cell_sights cells = map (λ (c : ℕ × Cell). cell_sight c.0 c.1) cells

-- vertices by their positions
abbrev pub vertices_seen : List ℕ → List Sight
vertices_seen vertices = map vertex_sight vertices

-- the points of a rank by what it was given: cells, vertices, faces, edges
unfoldable pub part_points : ScatterPart → List Sight
part_points part = cell_sights part.cells ++ vertices_seen part.vertices ++ faces_among part.cells ++ edges_among part.cells

-- the vertices of points, rising
abbrev pub sets_on : List Sight → List (List ℕ)
sets_on points = map (λ s. (point_of s).vertices) points

-- of all points of a rank
unfoldable pub part_sets : ScatterPart → List (List ℕ)
part_sets part = sets_on (part_points part)

-- a point with at most four vertices, as a face or an edge is
pub record IsSmall (s : Sight) : Type 0 where
  pub few : length s.arrangement ≤ 4
