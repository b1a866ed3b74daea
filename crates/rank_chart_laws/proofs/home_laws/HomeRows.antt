-- Worked rows: the forest of the words of three triangles, of which rank 0 has the first and rank 1 the two beside it.
use Rattle.std.proofs.Common.{◌≡◌, ℕ, List, [], ◌∷◌, map, refl}
use Rattle.std.specs.Prelude.{unwrap_or}
use Rattle.mesh_defs.specs.Mesh.{Mesh, Cell}
use Rattle.mesh_defs.specs.declared.Poly.TheVariants.{Triangle}
use Rattle.plain_lists.specs.Lists.{sorted, below}
use Rattle.mesh_defs.specs.Points.{Point, sights_of, contains}
use Rattle.mesh_defs.specs.Diagram.{stratum, strata}
use Rattle.sf_defs.specs.declared.Op.TheVariants.{Min}
use Rattle.sf_defs.specs.declared.Ask.{Ask}
use Rattle.sf_defs.specs.Forest.{leaf}
use Rattle.rank_defs.specs.Ranks.{assigned, ranks_at, owner, is_shared, own_key}
use Rattle.rank_defs.specs.Home.{by_vertices, shared_points, home_points, home_words, home_asks}
use Rattle.plex_defs.proofs.Meshes.{two_triangles_at}
use Rattle.rank_laws.specs.orient_laws.Named.{home_part}
use Rattle.rank_chart_laws.specs.home_laws.HomeForest.{home_counts, home_values, home_roots, home_forest}

abbrev triangle : ℕ → ℕ → ℕ → Cell
triangle a b c = record { poly = Triangle; vertices = a ∷ b ∷ c ∷ [] }

abbrev fan : Mesh
fan = record { dim = 2; at = map two_triangles_at (0 ∷ 0 ∷ 0 ∷ 0 ∷ 0 ∷ []); cells = triangle 0 1 2 ∷ triangle 0 2 3 ∷ triangle 2 1 4 ∷ []; marks = []; names = []; fields = []; unused = 0; loose = 0; merged = 0 }

abbrev fan_ranks : List ℕ
fan_ranks = 0 ∷ 1 ∷ 1 ∷ []

-- each rank numbers its points by its own keys
abbrev local_in_fan : ℕ → Point → ℕ
local_in_fan r p = unwrap_or (own_key fan fan_ranks r p) 0

abbrev ask : ℕ → ℕ → Ask
ask word value = record { word = word; op = Min; value = value }

-- rank 0 has the words of the edges from 0 to 2 and from 1 to 2, at first its own keys of them
values_of_fan : home_values fan fan_ranks 2 ≡ (10 ∷ 9 ∷ []) ∷ [] ∷ []
unfolding sorted sights_of by_vertices shared_points home_part home_values home_words strata stratum owner is_shared ranks_at contains own_key assigned
values_of_fan = refl

-- rank 1 has a leaf on each, here numbered by its own keys of them
forest_of_fan : home_forest fan fan_ranks 2 local_in_fan ≡ record { roots = 2 ∷ 0 ∷ []; leaves = [] ∷ (leaf 72 (0, 0) ∷ leaf 136 (0, 1) ∷ []) ∷ [] }
unfolding sorted sights_of by_vertices shared_points home_part home_counts home_roots home_forest strata stratum owner is_shared ranks_at contains own_key assigned
forest_of_fan = refl

-- so rank 1 asks both words with its own keys
asks_of_fan : map (home_asks fan fan_ranks (home_points fan fan_ranks 2)) (below 2) ≡ [] ∷ (ask 0 72 ∷ ask 1 136 ∷ []) ∷ []
unfolding sorted sights_of by_vertices shared_points home_points home_asks strata stratum owner is_shared ranks_at contains own_key assigned
asks_of_fan = refl
