-- Worked rows: the fan of three triangles of which rank 0 has the first, as ranks see it and by keys.
use Rattle.std.proofs.Common.{◌≡◌, ℕ, false, List, [], ◌∷◌, map, refl}
use Rattle.mesh_defs.specs.Mesh.{Mesh, Cell}
use Rattle.mesh_defs.specs.declared.Poly.TheVariants.{Triangle}
use Rattle.plain_lists.specs.Lists.{sorted}
use Rattle.mesh_defs.specs.Points.{Point, sights_of, first_sight, contains}
use Rattle.mesh_defs.specs.Diagram.{stratum, strata}
use Rattle.sf_defs.specs.Forest.{degree}
use Rattle.rank_defs.specs.Ranks.{assigned, ranks_at, owner, is_shared}
use Rattle.rank_defs.specs.Spread.{point_forest, own_stratum, own_chart}
use Rattle.rank_defs.specs.Home.{by_vertices, shared_points, home_points}
use Rattle.plex_defs.proofs.Meshes.{two_triangles_at}
use Rattle.rank_laws.specs.share_laws.Charts.{own_charts}
use Rattle.rank_laws.specs.orient_laws.Named.{keys_of, chart_stratum, seen_first, own_home}

abbrev edge : ℕ → ℕ → Point
edge v w = record { dim = 1; vertices = v ∷ w ∷ [] }

abbrev triangle : ℕ → ℕ → ℕ → Cell
triangle a b c = record { poly = Triangle; vertices = a ∷ b ∷ c ∷ [] }

-- three triangles of which the second and third lie at two sides of the first
abbrev fan : Mesh
fan = record { dim = 2; at = map two_triangles_at (0 ∷ 0 ∷ 0 ∷ 0 ∷ 0 ∷ []); cells = triangle 0 1 2 ∷ triangle 0 2 3 ∷ triangle 2 1 4 ∷ []; marks = []; names = []; fields = []; unused = 0; loose = 0; merged = 0 }

abbrev fan_ranks : List ℕ
fan_ranks = 0 ∷ 1 ∷ 1 ∷ []

-- the edges of rank 1 by its own keys, which are not their keys
own_keys : keys_of (own_stratum (assigned fan fan_ranks 1) 1) ≡ 72 ∷ 73 ∷ 74 ∷ 136 ∷ 137 ∷ 138 ∷ []
unfolding sorted sights_of assigned
own_keys = refl

-- the same edges as they are first seen, still in the rank's order
first_keys : keys_of (map (seen_first fan) (own_stratum (assigned fan fan_ranks 1) 1)) ≡ 10 ∷ 73 ∷ 74 ∷ 9 ∷ 137 ∷ 138 ∷ []
unfolding sorted sights_of assigned seen_first first_sight
first_keys = refl

-- sorted by key they are those of the chart
chart_keys : keys_of (chart_stratum fan (assigned fan fan_ranks 1) 1) ≡ 9 ∷ 10 ∷ 73 ∷ 74 ∷ 137 ∷ 138 ∷ []
unfolding sorted sights_of assigned chart_stratum stratum contains
chart_keys = refl

-- rank 0 owns the two edges that are shared, and has words for them by their vertices
home_words_of_fan : home_points fan fan_ranks 2 ≡ edge 0 2 ∷ edge 1 2 ∷ []
unfolding sorted sights_of by_vertices shared_points home_points strata stratum owner is_shared ranks_at contains
home_words_of_fan = refl

own_words : own_home fan fan_ranks 0 1 ≡ edge 1 2 ∷ edge 0 2 ∷ []
unfolding sorted sights_of own_home own_chart assigned owner is_shared ranks_at contains
own_words = refl

-- the edge from 0 to 1, whose ends rank 1 has, is not shared, and its root has no leaf
unshared : is_shared fan fan_ranks (edge 0 1) ≡ false
unfolding sorted sights_of is_shared owner ranks_at contains
unshared = refl

degrees : map (degree (point_forest fan fan_ranks (own_charts fan fan_ranks 2)) 0) (4 ∷ 5 ∷ 6 ∷ []) ≡ 0 ∷ 1 ∷ 1 ∷ []
unfolding sorted sights_of own_charts own_chart assigned point_forest degree owner ranks_at contains
degrees = refl
