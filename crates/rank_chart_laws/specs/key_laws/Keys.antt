-- What the ranks learn: the keys of the points that each sees by itself.
use Rattle.std.specs.Prelude.{ℕ, List, map, unwrap_or}
use Rattle.plain_lists.specs.Lists.{below}
use Rattle.mesh_defs.specs.Mesh.{Mesh}
use Rattle.mesh_defs.specs.Points.{point_of, key}
use Rattle.rank_defs.specs.Ranks.{assigned}
use Rattle.rank_defs.specs.Spread.{own_chart}

-- the key of each point of a rank's own chart: the least under which any rank sees it
abbrev pub keys_on : Mesh → List ℕ → ℕ → List ℕ
keys_on m a r = map (λ s. unwrap_or (key m (point_of s)) 0) (own_chart m (assigned m a r))

-- the same of n ranks
unfoldable pub own_point_keys : Mesh → List ℕ → ℕ → List (List ℕ)
own_point_keys m a n = map (keys_on m a) (below n)
