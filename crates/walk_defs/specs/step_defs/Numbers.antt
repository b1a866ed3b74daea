-- The numbers of all points that ranks hold.
use Rattle.std.specs.Prelude.{ℕ, List, map}
use Rattle.plain_lists.specs.Lists.{below}
use Rattle.mesh_defs.specs.Mesh.{Mesh}
use Rattle.mesh_defs.specs.Points.{Sight, point_of}
use Rattle.rank_defs.specs.Ranks.{held}
use Rattle.rank_defs.specs.Home.{point_number}

-- of n ranks, with k layers of overlap, the number of each point that a rank holds, in the order of its chart
unfoldable pub held_numbers : Mesh → List ℕ → ℕ → ℕ → List ℕ → List (List ℕ)
held_numbers m a n k bases = map (λ r. map (λ (s : Sight). point_number m a bases (point_of s)) (held m a r k)) (below n)
