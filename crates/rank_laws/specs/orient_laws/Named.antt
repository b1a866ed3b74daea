-- Strata of charts, and points as the whole mesh sees them first.
use Rattle.std.specs.Prelude.{◌≡◌, ◌⊎◌, ℕ, false, ◌&&◌, ◌==◌, List, [], ◌∷◌, map, filter, find, Option, option_map, unwrap_or, is_none}
use Rattle.mesh_defs.specs.Tables.{dim_of}
use Rattle.mesh_defs.specs.Mesh.{Mesh, Cell}
use Rattle.mesh_defs.specs.Points.{Point, Sight, point_of, shows, sights, first_sight}
use Rattle.mesh_defs.specs.Diagram.{stratum, seen_under}
use Rattle.mesh_defs.specs.RightMesh.{in_some}
use Rattle.std.specs.List.{AllByRecursion}
use Rattle.rank_defs.specs.Ranks.{assigned, owner, is_shared}
use Rattle.rank_defs.specs.Spread.{own_chart}
use Rattle.rank_defs.specs.Home.{precedes, by_vertices, shared_points}

abbrev pub keys_of : List Sight → List ℕ
keys_of points = map (λ (s : Sight). s.key) points

-- the points of one dimension of the chart of some cells, by rising key
unfoldable pub chart_stratum : Mesh → List (ℕ × Cell) → ℕ → List Sight
chart_stratum m cells dim = filter (λ s. in_some (point_of s) cells) (stratum m dim)

-- the point of a sight under its key and in its arrangement
unfoldable pub seen_first : Mesh → Sight → Sight
seen_first m s = unwrap_or (first_sight m (point_of s)) s

-- the first sight of a point among those of a rank's cells
abbrev pub own_sight : Mesh → List ℕ → ℕ → Point → Option Sight
own_sight m a r p = find (shows p) (sights (assigned m a r))

-- the least key of a face that a cell of the rank sees under no orientation
unfoldable pub own_twist : Mesh → List ℕ → ℕ → Option ℕ
own_twist m a r =
    option_map (λ (s : Sight). s.key) (find (λ s. is_none (seen_under m s.poly s.arrangement)) (filter (λ s. (m.dim == 3) && (dim_of s.poly == 2)) (sights (assigned m a r))))

-- each point stands by its vertices before all that follow, and none stands twice
abbrev pub StandInOrder : List Point → Type 0
StandInOrder [] = Unit {0}
StandInOrder (p ∷ ps) = AllByRecursion (λ (q : Point). precedes q.vertices p.vertices ≡ false) ps × StandInOrder ps

-- ---- the words of the home round

-- a dimension between those of vertices and of cells: edges, and the faces of a solid mesh
abbrev pub IsMiddle : Mesh → ℕ → Type 0
IsMiddle m dim = (dim ≡ 1) ⊎ ((dim ≡ 2) × (m.dim ≡ 3))

-- the points of a dimension that a rank sees by itself, owns and shares
unfoldable pub own_home : Mesh → List ℕ → ℕ → ℕ → List Point
own_home m a r dim = filter (λ p. ((owner m a p == r) && (p.dim == dim)) && is_shared m a p) (map point_of (own_chart m (assigned m a r)))

-- the points of a dimension that a rank has words for, by their vertices
unfoldable pub home_part : Mesh → List ℕ → ℕ → ℕ → List Point
home_part m a r dim = by_vertices (filter (λ p. (owner m a p == r) && (p.dim == dim)) (shared_points m a))
