-- How the cell of the key sees the faces and edges of ranks.
use Rattle.std.specs.Prelude.{ℕ, List, ◌++◌, map}
use Rattle.plain_lists.specs.Lists.{below}
use Rattle.mesh_defs.specs.Mesh.{Mesh}
use Rattle.rank_defs.specs.Ranks.{assigned}
use Rattle.local_points.specs.Points.{faces_among, edges_among}
use Rattle.rank_chart_laws.specs.meeting_laws.Sets.{filled}
use Rattle.rank_laws.specs.orient_laws.Named.{seen_first}

-- of a rank's faces and then of its edges the vertices as the cell of the key sees them, filled up to four numbers
abbrev pub arrangements_on : Mesh → List ℕ → ℕ → List (List ℕ)
arrangements_on m a r = map (λ s. filled (seen_first m s).arrangement) (faces_among (assigned m a r) ++ edges_among (assigned m a r))

-- the same of n ranks
unfoldable pub own_arrangements : Mesh → List ℕ → ℕ → List (List (List ℕ))
own_arrangements m a n = map (arrangements_on m a) (below n)
