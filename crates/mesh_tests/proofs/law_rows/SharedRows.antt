-- Worked rows of points that ranks share.
use Rattle.std.proofs.Common.{◌≡◌, true, false, List, [], ◌∷◌, map, refl, arith}
use Rattle.std.specs.List.{list_any}
use Rattle.plain_lists.specs.Lists.{sorted}
use Rattle.mesh_defs.specs.Points.{Point, shows, sights_of, contains}
use Rattle.mesh_defs.specs.Sights.{points_differ}
use Rattle.mesh_defs.specs.RightMesh.{in_some}
use Rattle.plex_defs.proofs.Meshes.{three_triangles}
use Rattle.rank_defs.specs.Ranks.{assigned, ranks_at, owner, is_shared}
use Rattle.rank_defs.specs.Spread.{own_chart}
use Rattle.rank_laws.specs.share_laws.Charts.{vertex_point}
use Rattle.rank_laws.specs.share_laws.Packed.{IsPackable}
use Rattle.mesh_tests.proofs.law_rows.Fan.{fan_ranks, edge}

-- two edges that rank 1 has, and two that it has not, although it has the ends of one of them
abbrev edges : List Point
edges = edge 1 4 ∷ edge 0 2 ∷ edge 0 1 ∷ edge 3 4 ∷ []

shown_by_one : map (λ p. list_any (shows p) (own_chart three_triangles (assigned three_triangles fan_ranks 1))) edges ≡ true ∷ true ∷ false ∷ false ∷ []
unfolding sorted sights_of contains assigned own_chart
shown_by_one = refl

in_cells_of_one : map (λ p. in_some p (assigned three_triangles fan_ranks 1)) edges ≡ true ∷ true ∷ false ∷ false ∷ []
unfolding sorted sights_of contains assigned
in_cells_of_one = refl

-- no chart has a point twice
each_once : map (λ r. points_differ (own_chart three_triangles (assigned three_triangles fan_ranks r))) (0 ∷ 1 ∷ []) ≡ true ∷ true ∷ []
unfolding sorted sights_of contains assigned own_chart
each_once = refl

-- with its edge from 1 to 4 rank 1 has both ends; rank 0 has one of them, and not the edge
ends_of_edge : map (λ r. map (λ p. in_some p (assigned three_triangles fan_ranks r)) (edge 1 4 ∷ vertex_point 1 ∷ vertex_point 4 ∷ [])) (1 ∷ 0 ∷ []) ≡ (true ∷ true ∷ true ∷ []) ∷ (false ∷ true ∷ false ∷ []) ∷ []
unfolding sorted sights_of contains assigned
ends_of_edge = refl

-- two edges are shared, and so are their ends; one is not, although its ends are
shared_edges : map (is_shared three_triangles fan_ranks) (edge 0 2 ∷ edge 1 2 ∷ edge 0 1 ∷ edge 1 4 ∷ []) ≡ true ∷ true ∷ false ∷ false ∷ []
unfolding sorted sights_of contains ranks_at owner is_shared
shared_edges = refl

shared_vertices : map (λ v. is_shared three_triangles fan_ranks (vertex_point v)) (0 ∷ 1 ∷ 2 ∷ 3 ∷ 4 ∷ []) ≡ true ∷ true ∷ true ∷ false ∷ false ∷ []
unfolding sorted sights_of contains ranks_at owner is_shared
shared_vertices = refl

-- sets that may be packed
packable : IsPackable (1 ∷ 2 ∷ []) × IsPackable (0 ∷ 1 ∷ 2 ∷ 3 ∷ [])
packable = (record { few = omega arith; numbers = (omega arith, (omega arith, tt)) }, record { few = omega arith; numbers = (omega arith, (omega arith, (omega arith, (omega arith, tt)))) })
