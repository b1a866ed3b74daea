-- The weights of points, as ranks have them from their own cells.
use Rattle.std.specs.Prelude.{ℕ, ◌+◌, List, [], map, filter, sum_by, get_or}
use Rattle.plain_lists.specs.Lists.{below}
use Rattle.mesh_defs.specs.declared.Poly.TheVariants.{Vertex}
use Rattle.mesh_defs.specs.Mesh.{Mesh, Cell}
use Rattle.mesh_defs.specs.Points.{Point, Sight, point_of, contains}
use Rattle.rank_defs.specs.Ranks.{assigned}
use Rattle.rank_defs.specs.Spread.{own_chart}

-- past the last point nothing is seen, and this is a sight of no vertices
abbrev pub no_sight : Sight
no_sight = record { key = 0; poly = Vertex; arrangement = [] }

-- the point at a place of a chart
abbrev pub point_at : List Sight → ℕ → Point
point_at points i = point_of (get_or points i no_sight)

-- the sum of c + 1 over those of some cells c that contain a point
abbrev pub weight_in : List (ℕ × Cell) → Point → ℕ
weight_in cells p = sum_by (λ (c : ℕ × Cell). c.0 + 1) (filter (λ (c : ℕ × Cell). contains c.1 p) cells)

-- for each point of the own chart of some cells the sum over these cells
abbrev pub own_weights : Mesh → List (ℕ × Cell) → List ℕ
own_weights m cells = map (λ (s : Sight). weight_in cells (point_of s)) (own_chart m cells)

-- the same of n ranks
unfoldable pub rank_weights : Mesh → List ℕ → ℕ → List (List ℕ)
rank_weights m a n = map (λ r. own_weights m (assigned m a r)) (below n)
