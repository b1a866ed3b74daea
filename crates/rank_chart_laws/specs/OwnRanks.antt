-- What each rank has of a mesh by its own cells, as sets of vertices.
use Rattle.std.specs.Prelude.{ℕ, ◌==◌, if◌then◌else◌, List, [], ◌++◌, map, filter, length}
use Rattle.plain_lists.specs.Lists.{below}
use Rattle.mesh_defs.specs.Mesh.{Mesh, Cell}
use Rattle.mesh_defs.specs.Points.{Sight, point_of}
use Rattle.mesh_defs.specs.RightMesh.{in_some}
use Rattle.rank_defs.specs.Ranks.{assigned, owner}
use Rattle.rank_defs.specs.Spread.{own_stratum}
use Rattle.rank_laws.specs.share_laws.Charts.{vertex_point}
use Rattle.rank_chart_laws.specs.meeting_laws.Sets.{RankChart, filled}

-- the vertices of some cells, rising
abbrev pub own_vertices : Mesh → List (ℕ × Cell) → List ℕ
own_vertices m cells = filter (λ v. in_some (vertex_point v) cells) (below (length m.at))

-- their faces, where they are solid, and their edges, as they see them first
abbrev pub own_middle : Mesh → List (ℕ × Cell) → List Sight
own_middle m cells = (if m.dim == 3 then own_stratum cells 2 else []) ++ own_stratum cells 1

-- the vertices of a point as a filled set
abbrev pub set_of : Sight → List ℕ
set_of s = filled (point_of s).vertices

-- what a rank has
unfoldable pub own_rank_chart : Mesh → List ℕ → ℕ → RankChart
own_rank_chart m a r =
    let cells = assigned m a r in
    record { cells = length cells; vertices = own_vertices m cells; owners = map (λ v. owner m a (vertex_point v)) (own_vertices m cells); sets = map set_of (own_middle m cells) }

-- what n ranks have
unfoldable pub own_rank_charts : Mesh → List ℕ → ℕ → List RankChart
own_rank_charts m a n = map (own_rank_chart m a) (below n)
