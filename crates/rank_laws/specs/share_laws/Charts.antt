-- Charts of ranks as lists of points, and which of these points are the same.
use Rattle.std.specs.Prelude.{ℕ, ◌==◌, not, List, [], map, length, filter, get_or}
use Rattle.std.specs.List.{list_any, position_or_len, enumerate_from}
use Rattle.plain_lists.specs.Lists.{below}
use Rattle.mesh_defs.specs.Mesh.{Mesh}
use Rattle.mesh_defs.specs.Points.{Point, Sight, same_point, point_of, vertex_sight}
use Rattle.sf_defs.specs.Forest.{Forest, leaf}
use Rattle.rank_defs.specs.Ranks.{assigned}
use Rattle.rank_defs.specs.Spread.{own_chart}

-- the vertex at a position, as a point
abbrev pub vertex_point : ℕ → Point
vertex_point v = point_of (vertex_sight v)

-- the charts of n ranks, as each sees its own cells alone
unfoldable pub own_charts : Mesh → List ℕ → ℕ → List (List Sight)
own_charts m a n = map (λ r. own_chart m (assigned m a r)) (below n)

-- their points
abbrev pub points_of : List (List Sight) → List (List Point)
points_of charts = map (map point_of) charts

-- the first rank whose chart has the point, and the place of the point there
abbrev pub first_holder : List (List Point) → Point → ℕ
first_holder charts p = position_or_len (list_any (same_point p)) charts

abbrev pub first_home : List (List Point) → Point → ℕ × ℕ
first_home charts p = (first_holder charts p, position_or_len (same_point p) (get_or charts (first_holder charts p) []))

-- The forest of shared points by charts alone: every point is a root, and the leaves of a rank are its points that an earlier
-- chart has too, each on the same point of the first chart that has it.
unfoldable pub forest_of_charts : List (List Point) → Forest
forest_of_charts charts = record {
  roots = map length charts;
  leaves = map (λ r. map (λ p. leaf p.0 (first_home charts p.1)) (filter (λ p. not (first_holder charts p.1 == r.0)) (enumerate_from 0 r.1))) (enumerate_from 0 charts);
}
