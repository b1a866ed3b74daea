-- Worked rows: weights and labels of three triangles over three ranks, of which the last one has no cell.
use Rattle.std.proofs.Common.{◌≡◌, ℕ, List, [], ◌∷◌, map, ℤ, pos, negsuc, inl, refl, arith}
use Rattle.plain_lists.specs.Lists.{below, sorted}
use Rattle.mesh_defs.specs.Mesh.{Mesh, Mark}
use Rattle.mesh_defs.specs.Points.{Sight, point_of, vertex_sight, sights_of, contains}
use Rattle.mesh_defs.specs.RightMesh.{IsFlatOrSolid, IsRightMesh, AreCells}
use Rattle.mesh_defs.proofs.RightMeshes.{right-mesh}
use Rattle.sf_defs.specs.Forest.{Forest, leaf, root_of}
use Rattle.plex_defs.specs.Fields.{weight}
use Rattle.plex_defs.specs.Labels.{label_of, mesh_label}
use Rattle.plex_defs.proofs.Meshes.{three_triangles}
use Rattle.rank_defs.specs.Ranks.{IsRightAssignment, assigned, ranks_at, owner}
use Rattle.rank_defs.specs.Spread.{own_chart, point_forest}
use Rattle.rank_defs.proofs.RightRows.{right-assignment}
use Rattle.rank_chart_laws.specs.label_laws.Marks.{marked_pairs}
use Rattle.rank_laws.specs.share_laws.Charts.{own_charts}
use Rattle.sf_defs.specs.sums.Sums.{home, sum_at}
use Rattle.rank_chart_laws.specs.field_laws.Kept.{kept_marks}
use Rattle.rank_chart_laws.specs.field_laws.Weights.{weight_in, rank_weights}

-- ---- the mesh and its ranks

abbrev mark : ℕ → List ℕ → ℤ → Mark
mark dim vertices value = record { dim = dim; vertices = vertices; value = value }

-- marks on an edge of the second triangle, on an edge of the first and the third, and on a vertex of all three
abbrev fan : Mesh
fan = record three_triangles { marks = mark 1 (3 ∷ 0 ∷ []) (pos 4) ∷ mark 1 (1 ∷ 2 ∷ []) (pos 7) ∷ mark 0 (2 ∷ []) (negsuc 0) ∷ [] }

-- rank 0 has the first triangle, rank 1 the others, rank 2 none
abbrev fan_ranks : List ℕ
fan_ranks = 0 ∷ 1 ∷ 1 ∷ []

fan_is_flat : IsFlatOrSolid fan
fan_is_flat = inl refl

fan_is_right : IsRightMesh fan
unfolding sorted sights_of contains
fan_is_right = right-mesh fan refl

fan_ranks_are_right : IsRightAssignment fan 3 fan_ranks
fan_ranks_are_right = right-assignment fan 3 fan_ranks refl

-- the cells of rank 1 are cells of the mesh
cells_of_one : AreCells fan (assigned fan fan_ranks 1)
unfolding assigned
cells_of_one = ((1, omega arith, refl), ((2, omega arith, refl), tt))

-- ---- weights

-- rank 0 gives the vertex of all three triangles 1, rank 1 gives it 2 and 3
weight_of_vertex : map (λ r. weight_in (assigned fan fan_ranks r) (point_of (vertex_sight 2))) (below 3) ≡ 1 ∷ 5 ∷ 0 ∷ []
unfolding sorted sights_of contains assigned
weight_of_vertex = refl

weight_of_vertex_in_all : weight fan (point_of (vertex_sight 2)) ≡ 6
unfolding sorted sights_of contains
weight_of_vertex_in_all = refl

-- what the ranks have from their own cells, and the forest of what they share
abbrev own_words : List (List ℕ)
own_words = (1 ∷ 1 ∷ 1 ∷ 1 ∷ 1 ∷ 1 ∷ 1 ∷ []) ∷ (2 ∷ 3 ∷ 2 ∷ 3 ∷ 5 ∷ 2 ∷ 3 ∷ 2 ∷ 2 ∷ 2 ∷ 3 ∷ 3 ∷ 3 ∷ []) ∷ [] ∷ []

abbrev shared : Forest
shared = record { roots = 7 ∷ 13 ∷ 0 ∷ []; leaves = [] ∷ (leaf 2 (0, 1) ∷ leaf 3 (0, 2) ∷ leaf 4 (0, 3) ∷ leaf 7 (0, 6) ∷ leaf 10 (0, 5) ∷ []) ∷ [] ∷ [] }

own_weights_of_fan : rank_weights fan fan_ranks 3 ≡ own_words
unfolding sorted sights_of contains assigned own_chart rank_weights
own_weights_of_fan = refl

forest_of_fan : point_forest fan fan_ranks (own_charts fan fan_ranks 3) ≡ shared
unfolding sorted sights_of contains assigned ranks_at owner own_chart own_charts point_forest
forest_of_fan = refl

-- over their copies they add up to the weights, on each rank alike
weights_of_fan : map (map (λ (s : Sight). weight fan (point_of s))) (own_charts fan fan_ranks 3)
    ≡ (1 ∷ 3 ∷ 4 ∷ 6 ∷ 1 ∷ 4 ∷ 3 ∷ []) ∷ (2 ∷ 3 ∷ 3 ∷ 4 ∷ 6 ∷ 2 ∷ 3 ∷ 3 ∷ 2 ∷ 2 ∷ 4 ∷ 3 ∷ 3 ∷ []) ∷ [] ∷ []
unfolding sorted sights_of contains assigned own_chart own_charts
weights_of_fan = refl

sums_on_zero : map (λ i. sum_at shared own_words (home shared 0 i)) (below 7) ≡ 1 ∷ 3 ∷ 4 ∷ 6 ∷ 1 ∷ 4 ∷ 3 ∷ []
unfolding root_of sum_at
sums_on_zero = refl

sums_on_one : map (λ i. sum_at shared own_words (home shared 1 i)) (below 13) ≡ 2 ∷ 3 ∷ 3 ∷ 4 ∷ 6 ∷ 2 ∷ 3 ∷ 3 ∷ 2 ∷ 2 ∷ 4 ∷ 3 ∷ 3 ∷ []
unfolding root_of sum_at
sums_on_one = refl

-- no sum is greater: at a place that is a leaf is the word alone, and past all places nothing
sums_at_places : map (λ i. sum_at shared own_words (1, i)) (below 14) ≡ 2 ∷ 3 ∷ 2 ∷ 3 ∷ 5 ∷ 2 ∷ 3 ∷ 2 ∷ 2 ∷ 2 ∷ 3 ∷ 3 ∷ 3 ∷ 0 ∷ []
unfolding sum_at
sums_at_places = refl

-- ---- labels

-- rank 0 does not keep the mark on the edge of the second triangle, rank 2 keeps none
marks_of_fan : map (λ r. kept_marks fan (assigned fan fan_ranks r)) (below 3)
    ≡ (mark 1 (1 ∷ 2 ∷ []) (pos 7) ∷ mark 0 (2 ∷ []) (negsuc 0) ∷ [])
    ∷ (mark 1 (3 ∷ 0 ∷ []) (pos 4) ∷ mark 1 (1 ∷ 2 ∷ []) (pos 7) ∷ mark 0 (2 ∷ []) (negsuc 0) ∷ [])
    ∷ [] ∷ []
unfolding sorted sights_of contains assigned
marks_of_fan = refl

-- the labels of dimension 0 to 3, by places in each rank's chart
abbrev labels_by_rank : List (List (List (ℕ × ℤ)))
labels_by_rank =
    (((3, negsuc 0) ∷ []) ∷ ((5, pos 7) ∷ []) ∷ [] ∷ [] ∷ [])
    ∷ (((4, negsuc 0) ∷ []) ∷ ((9, pos 4) ∷ (10, pos 7) ∷ []) ∷ [] ∷ [] ∷ [])
    ∷ ([] ∷ [] ∷ [] ∷ [] ∷ []) ∷ []

labels_by_points : map (λ points. map (λ dim. mesh_label fan dim points) (below 4)) (own_charts fan fan_ranks 3) ≡ labels_by_rank
unfolding sorted sights_of contains assigned own_chart own_charts mesh_label
labels_by_points = refl

labels_by_marks : map (λ r. let cells = assigned fan fan_ranks r in map (λ dim. label_of (marked_pairs (own_chart fan cells) dim (kept_marks fan cells))) (below 4)) (below 3) ≡ labels_by_rank
unfolding sorted sights_of contains assigned own_chart
labels_by_marks = refl
