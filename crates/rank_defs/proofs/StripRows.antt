-- Worked rows: four triangles around a vertex with a layer of overlap, and a strip of eight squares that is redistributed.
use Rattle.std.proofs.Common.{◌≡◌, ◌==◌, ℕ, List, [], ◌∷◌, map, take, length, count_by, sum, refl}
use Rattle.plain_lists.specs.Lists.{sorted, below}
use Rattle.mesh_defs.specs.Mesh.{Mesh}
use Rattle.mesh_defs.specs.Points.{point_of, sights_of, contains}
use Rattle.mesh_defs.specs.Diagram.{stratum, strata, chart, place_in}
use Rattle.sf_defs.specs.declared.Tag.TheVariants.{Number}
use Rattle.sf_defs.specs.Asks.{step}
use Rattle.sf_defs.specs.PrintedOrder.{fetched_before, stands_before, printed_order}
use Rattle.sf_defs.specs.Script.{scripted}
use Rattle.rank_defs.specs.Home.{number_asks, bases_of}
use Rattle.sf_defs.specs.Forest.{root_at, leaves_on, root_of, compose}
use Rattle.rank_defs.specs.Ranks.{assigned, layer, held_cells, held, ranks_at, owner, owned}
use Rattle.rank_defs.specs.Spread.{charts, migration_forest, trace}
use Rattle.plex_defs.proofs.Meshes.{around_a_vertex, strip}

-- how many points each rank holds with k layers
abbrev held_counts : Mesh → List ℕ → ℕ → ℕ → List ℕ
held_counts m a n k = map length (charts m a n k)

-- how many points each rank owns
abbrev owned_counts : Mesh → List ℕ → ℕ → List ℕ
owned_counts m a n = map (λ r. length (owned m a r)) (below n)

-- the bases that the ranks draw where one asks after the other
abbrev bases : Mesh → List ℕ → ℕ → List ℕ
bases m a n = bases_of (scripted Number (0 ∷ []) (number_asks m a n) [])

-- of a rank's held points, how many each rank owns
abbrev owned_by : Mesh → List ℕ → ℕ → ℕ → List (List ℕ)
owned_by m a n k = map (λ r. map (λ o. count_by (λ s. owner m a (point_of s) == o) (held m a r k)) (below n)) (below n)

-- ---- four triangles around a vertex, each on a rank of its own

around_a_vertex_owned : owned_counts around_a_vertex (0 ∷ 1 ∷ 2 ∷ 3 ∷ []) 4 ≡ 7 ∷ 4 ∷ 4 ∷ 2 ∷ []
unfolding sorted sights_of contains stratum strata chart assigned layer held_cells held ranks_at owner owned
around_a_vertex_owned = refl

around_a_vertex_bases : bases around_a_vertex (0 ∷ 1 ∷ 2 ∷ 3 ∷ []) 4 ≡ 0 ∷ 7 ∷ 11 ∷ 15 ∷ []
unfolding sorted sights_of contains stratum strata chart assigned layer held_cells held ranks_at owner owned number_asks scripted printed_order stands_before fetched_before step
around_a_vertex_bases = refl

around_a_vertex_held : owned_by around_a_vertex (0 ∷ 1 ∷ 2 ∷ 3 ∷ []) 4 0 ≡ (7 ∷ 0 ∷ 0 ∷ 0 ∷ []) ∷ (3 ∷ 4 ∷ 0 ∷ 0 ∷ []) ∷ (1 ∷ 2 ∷ 4 ∷ 0 ∷ []) ∷ (3 ∷ 0 ∷ 2 ∷ 2 ∷ []) ∷ []
unfolding sorted sights_of contains stratum strata chart assigned layer held_cells held ranks_at owner
around_a_vertex_held = refl

-- one layer reaches every cell, since all share the vertex 0: ranks 0 and 2 share no edge
overlap_reaches_across_one_vertex : owned_by around_a_vertex (0 ∷ 1 ∷ 2 ∷ 3 ∷ []) 4 1 ≡ (7 ∷ 4 ∷ 4 ∷ 2 ∷ []) ∷ (7 ∷ 4 ∷ 4 ∷ 2 ∷ []) ∷ (7 ∷ 4 ∷ 4 ∷ 2 ∷ []) ∷ (7 ∷ 4 ∷ 4 ∷ 2 ∷ []) ∷ []
unfolding sorted sights_of contains stratum strata chart assigned layer held_cells held ranks_at owner
overlap_reaches_across_one_vertex = refl

-- ---- eight squares in a row over four ranks, two by two and in turns

abbrev block : List ℕ
block = 0 ∷ 0 ∷ 1 ∷ 1 ∷ 2 ∷ 2 ∷ 3 ∷ 3 ∷ []

abbrev stripe : List ℕ
stripe = 0 ∷ 1 ∷ 2 ∷ 3 ∷ 0 ∷ 1 ∷ 2 ∷ 3 ∷ []

strip_in_blocks : (held_counts strip block 4 0 ≡ 15 ∷ 15 ∷ 15 ∷ 15 ∷ []) × (owned_counts strip block 4 ≡ 15 ∷ 12 ∷ 12 ∷ 12 ∷ [])
unfolding sorted sights_of contains stratum strata chart assigned layer held_cells held ranks_at owner owned charts
strip_in_blocks = (refl, refl)

strip_in_stripes : (held_counts strip stripe 4 0 ≡ 18 ∷ 18 ∷ 18 ∷ 18 ∷ []) × (owned_counts strip stripe 4 ≡ 18 ∷ 12 ∷ 12 ∷ 9 ∷ [])
unfolding sorted sights_of contains stratum strata chart assigned layer held_cells held ranks_at owner owned charts
strip_in_stripes = (refl, refl)

strip_bases : (bases strip block 4 ≡ 0 ∷ 15 ∷ 27 ∷ 39 ∷ []) × (bases strip stripe 4 ≡ 0 ∷ 18 ∷ 30 ∷ 42 ∷ [])
unfolding sorted sights_of contains stratum strata chart assigned layer held_cells held ranks_at owner owned number_asks scripted printed_order stands_before fetched_before step
strip_bases = (refl, refl)

strip_with_two_layers : held_counts strip block 4 2 ≡ 27 ∷ 39 ∷ 39 ∷ 27 ∷ []
unfolding sorted sights_of contains stratum strata chart assigned layer held_cells held charts
strip_with_two_layers = refl

-- back in blocks, every point has the trace that it had at first: its owner and its local number there
strip_traces : migration_forest strip block block 4 ≡ compose (migration_forest strip block stripe 4) (migration_forest strip stripe block 4)
unfolding sorted sights_of contains stratum strata chart assigned layer held_cells held ranks_at owner charts migration_forest root_of compose
strip_traces = refl

-- every point is owned once, under each part
strip_totals : (sum (owned_counts strip block 4) ≡ 51) × (sum (owned_counts strip stripe 4) ≡ 51)
unfolding sorted sights_of contains stratum strata chart assigned layer held_cells held ranks_at owner owned
strip_totals = (refl, refl)

-- in blocks, the trace of each owned point of rank r is r and its local number
strip_traces_in_blocks : map (λ r. map (trace strip block 4) (map point_of (owned strip block r))) (below 4) ≡ map (λ r. map (λ s. (r, place_in (held strip block r 0) (point_of s))) (owned strip block r)) (below 4)
unfolding sorted sights_of contains stratum strata chart assigned layer held_cells held ranks_at owner owned charts trace
strip_traces_in_blocks = refl

-- in stripes, after two layers or not, leaf i of a rank in the forest of the redistribution has as root the trace of the rank's owned point i
strip_traces_in_stripes : map (map root_at) (migration_forest strip block stripe 4).leaves ≡ map (λ r. map (trace strip block 4) (map point_of (owned strip stripe r))) (below 4)
unfolding sorted sights_of contains stratum strata chart assigned layer held_cells held ranks_at owner owned charts trace migration_forest
strip_traces_in_stripes = refl

-- the first traces of rank 0 in stripes: its cells 0 and 4, of which cell 4 was the first of rank 2
strip_first_traces : take 4 (map root_at (leaves_on (migration_forest strip block stripe 4) 0)) ≡ (0, 0) ∷ (2, 0) ∷ (0, 2) ∷ (0, 3) ∷ []
unfolding sorted sights_of contains stratum strata chart assigned layer held_cells held ranks_at owner owned charts migration_forest
strip_first_traces = refl
