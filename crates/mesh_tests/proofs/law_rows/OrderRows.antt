-- Worked rows of charts in the order of keys.
use Rattle.std.proofs.Common.{◌≡◌, ℕ, false, List, [], ◌∷◌, map, Option, Some, None, IsPermutation, refl, arith}
use Rattle.std.specs.Prelude.{filter_map}
use Rattle.mesh_defs.specs.declared.Poly.TheVariants.{Segment}
use Rattle.plain_lists.specs.Lists.{below, sorted}
use Rattle.mesh_defs.specs.Orientation.{rotations, reflections, orientations, corners_under, act, relative}
use Rattle.mesh_defs.specs.Points.{Sight, sights_of, first_sight, key, arrangement, contains}
use Rattle.mesh_defs.specs.Diagram.{stratum, strata, chart, seen_under, twist_key}
use Rattle.plex_defs.proofs.Meshes.{three_triangles, twisted_hexahedra}
use Rattle.sf_defs.specs.Asks.{IsRising}
use Rattle.rank_defs.specs.Ranks.{IsRightAssignment, least, assigned, ranks_at, owner, is_shared, own_key}
use Rattle.rank_defs.specs.Spread.{own_stratum}
use Rattle.rank_defs.specs.Home.{by_vertices, shared_points, home_points}
use Rattle.rank_defs.proofs.RightRows.{right-assignment}
use Rattle.rank_laws.specs.orient_laws.Named.{keys_of, chart_stratum, seen_first, own_sight, own_twist, StandInOrder, home_part}
use Rattle.mesh_tests.proofs.law_rows.Fan.{fan_ranks, edge}

-- ---- keys

-- the keys of the triangles, the vertices and the edges
keys_of_fan : map (λ dim. keys_of (stratum three_triangles dim)) (2 ∷ 0 ∷ 1 ∷ []) ≡ (0 ∷ 64 ∷ 128 ∷ []) ∷ (0 ∷ 1 ∷ 2 ∷ 3 ∷ 4 ∷ []) ∷ (8 ∷ 9 ∷ 10 ∷ 73 ∷ 74 ∷ 137 ∷ 138 ∷ []) ∷ []
unfolding sorted sights_of stratum
keys_of_fan = refl

-- the chart of rank 1, and its triangles, vertices and edges
chart_of_one : keys_of (chart three_triangles (assigned three_triangles fan_ranks 1)) ≡ 64 ∷ 128 ∷ 0 ∷ 1 ∷ 2 ∷ 3 ∷ 4 ∷ 9 ∷ 10 ∷ 73 ∷ 74 ∷ 137 ∷ 138 ∷ []
unfolding sorted sights_of contains stratum strata chart assigned
chart_of_one = refl

strata_of_one : map (λ dim. keys_of (chart_stratum three_triangles (assigned three_triangles fan_ranks 1) dim)) (2 ∷ 0 ∷ 1 ∷ []) ≡ (64 ∷ 128 ∷ []) ∷ (0 ∷ 1 ∷ 2 ∷ 3 ∷ 4 ∷ []) ∷ (9 ∷ 10 ∷ 73 ∷ 74 ∷ 137 ∷ 138 ∷ []) ∷ []
unfolding sorted sights_of contains stratum chart_stratum assigned
strata_of_one = refl

-- its triangles as it sees them by itself
own_cells_of_one : keys_of (own_stratum (assigned three_triangles fan_ranks 1) 2) ≡ 64 ∷ 128 ∷ []
unfolding sorted sights_of assigned
own_cells_of_one = refl

abbrev seen_edge : ℕ → ℕ → ℕ → Sight
seen_edge k v w = record { key = k; poly = Segment; arrangement = v ∷ w ∷ [] }

-- its edges as they are first seen, in its own order and by key
abbrev first_seen : List Sight
first_seen = seen_edge 10 2 0 ∷ seen_edge 73 2 3 ∷ seen_edge 74 3 0 ∷ seen_edge 9 1 2 ∷ seen_edge 137 1 4 ∷ seen_edge 138 4 2 ∷ []

abbrev by_key : List Sight
by_key = seen_edge 9 1 2 ∷ seen_edge 10 2 0 ∷ seen_edge 73 2 3 ∷ seen_edge 74 3 0 ∷ seen_edge 137 1 4 ∷ seen_edge 138 4 2 ∷ []

edges_first_seen : map (seen_first three_triangles) (own_stratum (assigned three_triangles fan_ranks 1) 1) ≡ first_seen
unfolding sorted sights_of assigned first_sight seen_first
edges_first_seen = refl

edges_by_key : chart_stratum three_triangles (assigned three_triangles fan_ranks 1) 1 ≡ by_key
unfolding sorted sights_of contains stratum chart_stratum assigned
edges_by_key = refl

-- the fourth one moves to the front
edges_moved : IsPermutation first_seen by_key
edges_moved = record { moves = (0, 1) ∷ (1, 2) ∷ (2, 3) ∷ []; below = (omega arith, omega arith, (omega arith, omega arith, (omega arith, omega arith, tt))); is = refl }

keys_rise : IsRising (9 ∷ 10 ∷ 73 ∷ 74 ∷ [])
keys_rise = ((omega arith, (omega arith, (omega arith, tt))), ((omega arith, (omega arith, tt)), ((omega arith, tt), (tt, tt))))

-- ---- first sights

abbrev seen : ℕ → ℕ → ℕ → Option Sight
seen k v w = Some (seen_edge k v w)

-- an edge that rank 1 alone has; one that rank 0 sees first; the same as rank 1 sees it
first_sights : map (first_sight three_triangles) (edge 1 4 ∷ edge 0 2 ∷ []) ≡ seen 137 1 4 ∷ seen 10 2 0 ∷ []
unfolding sorted sights_of first_sight
first_sights = refl

unshared : is_shared three_triangles fan_ranks (edge 1 4) ≡ false
unfolding sorted sights_of contains ranks_at owner is_shared
unshared = refl

own_sights : own_sight three_triangles fan_ranks 1 (edge 1 4) ∷ own_sight three_triangles fan_ranks 0 (edge 0 2) ∷ own_sight three_triangles fan_ranks 1 (edge 0 2) ∷ [] ≡ seen 137 1 4 ∷ seen 10 2 0 ∷ seen 72 0 2 ∷ []
unfolding sorted sights_of assigned
own_sights = refl

-- only where the own key is the key, the own sight is the first one
own_keys : own_key three_triangles fan_ranks 1 (edge 1 4) ∷ own_key three_triangles fan_ranks 0 (edge 0 2) ∷ own_key three_triangles fan_ranks 1 (edge 0 2) ∷ [] ≡ Some 137 ∷ Some 10 ∷ Some 72 ∷ []
unfolding sorted sights_of assigned own_key
own_keys = refl

keys : map (key three_triangles) (edge 1 4 ∷ edge 0 2 ∷ []) ≡ Some 137 ∷ Some 10 ∷ []
unfolding sorted sights_of first_sight key
keys = refl

-- ---- twists

-- of two hexahedra the second one sees their face under no orientation
halves_are_right : IsRightAssignment twisted_hexahedra 2 (0 ∷ 1 ∷ [])
halves_are_right = right-assignment twisted_hexahedra 2 (0 ∷ 1 ∷ []) refl

own_twists : map (own_twist twisted_hexahedra (0 ∷ 1 ∷ [])) (0 ∷ 1 ∷ []) ≡ None ∷ Some 65 ∷ []
unfolding sorted sights_of first_sight arrangement rotations reflections orientations corners_under act relative seen_under assigned own_twist
own_twists = refl

least_twist : least (filter_map (own_twist twisted_hexahedra (0 ∷ 1 ∷ [])) (below 2)) ≡ Some 65
unfolding sorted sights_of first_sight arrangement rotations reflections orientations corners_under act relative seen_under assigned own_twist
least_twist = refl

whole_twist : twist_key twisted_hexahedra ≡ Some 65
unfolding sorted sights_of first_sight arrangement rotations reflections orientations corners_under act relative seen_under twist_key
whole_twist = refl

-- ---- the home round

-- rank 0 has both words, for edges; a flat mesh has none for faces
parts : map (λ r. map (home_part three_triangles fan_ranks r) (2 ∷ 1 ∷ [])) (0 ∷ 1 ∷ []) ≡ ([] ∷ (edge 0 2 ∷ edge 1 2 ∷ []) ∷ []) ∷ ([] ∷ [] ∷ []) ∷ []
unfolding sorted sights_of by_vertices shared_points home_part strata stratum owner is_shared ranks_at contains
parts = refl

words : home_points three_triangles fan_ranks 2 ≡ edge 0 2 ∷ edge 1 2 ∷ []
unfolding sorted sights_of by_vertices shared_points home_points strata stratum owner is_shared ranks_at contains
words = refl

words_in_order : StandInOrder (edge 0 2 ∷ edge 1 2 ∷ [])
words_in_order = ((refl, tt), (tt, tt))
