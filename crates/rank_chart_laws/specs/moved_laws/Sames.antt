-- Charts of the same points.
use Rattle.std.specs.Prelude.{◌≡◌, ◌⊎◌, ℕ, true, List, map}
use Rattle.std.specs.List.{list_any, AllByRecursion}
use Rattle.plain_lists.specs.Lists.{below}
use Rattle.mesh_defs.specs.Tables.{dim_of}
use Rattle.mesh_defs.specs.Mesh.{Mesh}
use Rattle.mesh_defs.specs.Points.{Point, Sight, point_of, shows}
use Rattle.mesh_defs.specs.Sights.{points_differ}
use Rattle.mesh_defs.specs.Diagram.{place_in}
use Rattle.rank_defs.specs.Ranks.{assigned, held}
use Rattle.rank_defs.specs.Spread.{own_chart}

-- two charts that have the same points, each once
pub record AreSamePoints (old new : List Sight) : Type 0 where
  pub old_once : points_differ old ≡ true
  pub new_once : points_differ new ≡ true
  pub same : (p : Point) → list_any (shows p) old ≡ list_any (shows p) new

-- where each point of one chart stands in another one
unfoldable pub moves_between : List Sight → List Sight → List ℕ
moves_between old new = map (λ s. place_in new (point_of s)) old

-- cells and vertices have the same keys in both
abbrev pub HaveSameNumbers : Mesh → List Sight → List Sight → Type 0
HaveSameNumbers m old new = AllByRecursion (λ (s : Sight). AllByRecursion (λ (t : Sight). shows (point_of s) t ≡ true → (dim_of s.poly ≡ 0) ⊎ (dim_of s.poly ≡ m.dim) → s.key ≡ t.key) new) old

-- from the chart of a rank's own points to the one in the order of keys
unfoldable pub rank_moves : Mesh → List ℕ → ℕ → List ℕ
rank_moves m a r = moves_between (own_chart m (assigned m a r)) (held m a r 0)

-- of n ranks
unfoldable pub all_moves : Mesh → List ℕ → ℕ → List (List ℕ)
all_moves m a n = map (rank_moves m a) (below n)
