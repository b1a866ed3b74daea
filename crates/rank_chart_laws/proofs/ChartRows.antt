-- Worked rows: the same three triangles over two ranks meet the conditions of the laws, and have what the laws say.
use Rattle.std.proofs.Common.{◌≡◌, ℕ, List, [], ◌∷◌, map, length, refl}
use Rattle.plain_lists.specs.Lists.{sorted}
use Rattle.mesh_defs.specs.Points.{Sight, point_of, sights_of, contains}
use Rattle.mesh_defs.specs.Diagram.{stratum, strata, chart}
use Rattle.mesh_defs.specs.RightMesh.{IsRightMesh}
use Rattle.mesh_defs.proofs.RightMeshes.{right-mesh}
use Rattle.sf_defs.specs.Forest.{leaf}
use Rattle.plex_defs.specs.Fields.{row_values}
use Rattle.plex_defs.proofs.Meshes.{three_triangles}
use Rattle.rank_defs.specs.Ranks.{IsRightAssignment, assigned, ranks_at, owner}
use Rattle.rank_defs.specs.Spread.{ScatterPart, own_chart, own_stratum, point_forest, scatter_part, vertices_among}
use Rattle.rank_defs.proofs.RightRows.{right-assignment}
use Rattle.rank_laws.specs.share_laws.Charts.{first_holder, own_charts, points_of}
use Rattle.rank_chart_laws.specs.meeting_laws.Sets.{AreRankCharts}
use Rattle.rank_chart_laws.proofs.meeting_laws.RightCharts.{right-charts}
use Rattle.rank_chart_laws.specs.OwnRanks.{own_rank_chart, own_rank_charts}

-- rank 0 has the first triangle, rank 1 the two at its sides
abbrev fan_ranks : List ℕ
fan_ranks = 0 ∷ 1 ∷ 1 ∷ []

fan_is_right : IsRightMesh three_triangles
unfolding sorted
fan_is_right = right-mesh three_triangles refl

fan_ranks_are_right : IsRightAssignment three_triangles 2 fan_ranks
fan_ranks_are_right = right-assignment three_triangles 2 fan_ranks refl

-- each cell is first on its own rank
first_of_cells : map (λ r. map (λ (s : Sight). first_holder (points_of (own_charts three_triangles fan_ranks 2)) (point_of s)) (own_stratum (assigned three_triangles fan_ranks r) 2)) (0 ∷ 1 ∷ []) ≡ (0 ∷ []) ∷ (1 ∷ 1 ∷ []) ∷ []
unfolding sorted sights_of contains assigned own_chart own_charts
first_of_cells = refl

-- the ranks may meet
fan_may_meet : AreRankCharts (own_rank_charts three_triangles fan_ranks 2)
unfolding sorted sights_of contains assigned ranks_at owner own_rank_chart own_rank_charts
fan_may_meet = right-charts (own_rank_charts three_triangles fan_ranks 2) refl

-- the forest of what they share, by the owners of points
fan_forest_by_owners : point_forest three_triangles fan_ranks (own_charts three_triangles fan_ranks 2)
    ≡ record { roots = 7 ∷ 13 ∷ []; leaves = [] ∷ (leaf 2 (0, 1) ∷ leaf 3 (0, 2) ∷ leaf 4 (0, 3) ∷ leaf 7 (0, 6) ∷ leaf 10 (0, 5) ∷ []) ∷ [] }
unfolding sorted sights_of contains assigned ranks_at owner own_chart own_charts point_forest
fan_forest_by_owners = refl

-- how many cells a rank is given, which vertices, and their owners
abbrev told : ScatterPart → ℕ × (List ℕ × List ℕ)
told part = (length part.cells, (part.vertices, part.owners))

given_of_fan : map (λ r. told (scatter_part three_triangles fan_ranks (assigned three_triangles fan_ranks r))) (0 ∷ 1 ∷ []) ≡ (1, (0 ∷ 1 ∷ 2 ∷ [], 0 ∷ 0 ∷ 0 ∷ [])) ∷ (2, (0 ∷ 1 ∷ 2 ∷ 3 ∷ 4 ∷ [], 0 ∷ 0 ∷ 0 ∷ 1 ∷ 1 ∷ [])) ∷ []
unfolding sorted sights_of contains stratum strata chart assigned ranks_at owner row_values scatter_part
given_of_fan = refl

vertices_of_fan : map (λ r. vertices_among (own_chart three_triangles (assigned three_triangles fan_ranks r))) (0 ∷ 1 ∷ []) ≡ (0 ∷ 1 ∷ 2 ∷ []) ∷ (0 ∷ 1 ∷ 2 ∷ 3 ∷ 4 ∷ []) ∷ []
unfolding sorted sights_of contains assigned own_chart
vertices_of_fan = refl
