-- Worked rows: labels and fields of the points of small meshes.
use Rattle.std.specs.List.{list_all}
use Rattle.std.proofs.Common.{◌≡◌, true, ℕ, ◌-◌, ◌*◌, ◌^◌, List, [], ◌∷◌, map, ℤ, pos, negsuc, Option, Some, None, refl}
use Rattle.mesh_defs.specs.declared.Poly.TheVariants.{Triangle}
use Rattle.mesh_defs.specs.declared.Place.TheVariants.{Node, Element}
use Rattle.plain_lists.specs.Lists.{sorted, below}
use Rattle.mesh_defs.specs.Mesh.{Mesh, Mark, Row, placed_cells}
use Rattle.mesh_defs.specs.Points.{Sight, sights_of, contains}
use Rattle.mesh_defs.specs.Diagram.{stratum, strata, chart}
use Rattle.plex_defs.specs.Labels.{mesh_label}
use Rattle.plex_defs.specs.Fields.{row_values, data_words, dof_words, fields, words_at}
use Rattle.rank_defs.specs.Ranks.{assigned, held_cells, held, ranks_at, owner}
use Rattle.rank_defs.specs.Spread.{LocalMesh, local_mesh, plain_dist, ScatterPart, scatter_part, plain_scatter}
use Rattle.mesh_defs.proofs.RightMeshes.{is_right}
use Rattle.plex_defs.proofs.Meshes.{bare, two_triangles}

abbrev one_triangle : Mesh
one_triangle = bare 2 3 Triangle ((0 ∷ 1 ∷ 2 ∷ []) ∷ [])

abbrev points : Mesh → List Sight
points m = chart m (placed_cells m)

abbrev mark : ℕ → List ℕ → ℤ → Mark
mark dim vertices value = record { dim = dim; vertices = vertices; value = value }

-- an element that is merged with the cell adds its value to it; a mark of a vertex, and one that stands twice on an edge
abbrev with_marks : Mesh
with_marks = record one_triangle { marks = mark 2 (0 ∷ 1 ∷ 2 ∷ []) (pos 6) ∷ mark 2 (1 ∷ 2 ∷ 0 ∷ []) (pos 5) ∷ mark 0 (2 ∷ []) (negsuc 0) ∷ mark 1 (2 ∷ 1 ∷ []) (pos 2) ∷ mark 1 (1 ∷ 2 ∷ []) (pos 2) ∷ [] }

marked : map (λ dim. mesh_label with_marks dim (points one_triangle)) (below 4)
    ≡ ((3, negsuc 0) ∷ []) ∷ ((5, pos 2) ∷ []) ∷ ((0, pos 5) ∷ (0, pos 6) ∷ []) ∷ [] ∷ []
unfolding sorted sights_of contains stratum strata chart mesh_label
marked = refl

abbrev row : ℕ → List ℤ → Row
row number values = record { number = number; values = values }

-- one data section on the vertices 0 and 2, the later row of vertex 2 holding, and one with three components on the cell
abbrev with_data : Mesh
with_data = record one_triangle {
  fields = record { on = Node; name = []; comps = 1; rows = row 2 (pos 1 ∷ []) ∷ row 0 (pos (205 * 10 ^ 9) ∷ []) ∷ row 2 (negsuc (4 * 10 ^ 10 - 1) ∷ []) ∷ [] }
      ∷ record { on = Element; name = []; comps = 3; rows = row 0 (pos 1 ∷ negsuc 0 ∷ pos 3 ∷ []) ∷ [] } ∷ [];
}

-- 20.5 at vertex 0, nothing at vertex 1, -4 at vertex 2, in units of 10^-10
data_on_points : fields with_data [] (points one_triangle)
    ≡ ([] ∷ ((205 * 10 ^ 9) ∷ []) ∷ [] ∷ ((2 ^ 64 - 4 * 10 ^ 10) ∷ []) ∷ [] ∷ [] ∷ [] ∷ [])
    ∷ ((1 ∷ (2 ^ 64 - 1) ∷ 3 ∷ []) ∷ [] ∷ [] ∷ [] ∷ [] ∷ [] ∷ [] ∷ []) ∷ []
unfolding sorted sights_of contains stratum strata chart row_values data_words fields
data_on_points = refl

-- one word at each vertex and two at each cell: cell c weighs c + 1, and a vertex as much as its cells
dofs_on_points : fields two_triangles ((1 ∷ 0 ∷ 2 ∷ 0 ∷ []) ∷ []) (points two_triangles)
    ≡ ((1 ∷ 2 ∷ []) ∷ (2 ∷ 4 ∷ []) ∷ (1 ∷ []) ∷ (3 ∷ []) ∷ (3 ∷ []) ∷ (2 ∷ []) ∷ [] ∷ [] ∷ [] ∷ [] ∷ [] ∷ []) ∷ []
unfolding sorted sights_of contains stratum strata chart dof_words fields
dofs_on_points = refl

-- one, none and two words: the point in the middle has none
own_words : map (words_at (1 ∷ 0 ∷ 2 ∷ []) (7 ∷ 8 ∷ 9 ∷ [])) (0 ∷ 1 ∷ 2 ∷ []) ≡ (7 ∷ []) ∷ [] ∷ (8 ∷ 9 ∷ []) ∷ []
unfolding words_at
own_words = refl

-- ---- labels and fields over two ranks

-- two triangles: the shared edge is marked, and vertex 1 and cell 1 have data
abbrev marked_triangles : Mesh
marked_triangles = record two_triangles {
  marks = mark 1 (2 ∷ 1 ∷ []) (pos 7) ∷ mark 2 (1 ∷ 3 ∷ 2 ∷ []) (pos 4) ∷ [];
  fields = record { on = Node; name = []; comps = 1; rows = row 1 (pos 5 ∷ []) ∷ [] } ∷ record { on = Element; name = []; comps = 1; rows = row 1 (pos 9 ∷ []) ∷ [] } ∷ [];
}

-- what a rank has of labels and fields, with a word at each vertex
abbrev carried : LocalMesh → List (List (ℕ × ℤ)) × List (List (List ℕ))
carried l = (l.labels, l.fields)

-- both copies of a point have the same: the edge is point 5 on rank 0 and point 4 on rank 1
labels_and_fields_over_ranks : map carried (plain_dist marked_triangles ((1 ∷ 0 ∷ 0 ∷ 0 ∷ []) ∷ []) (0 ∷ 1 ∷ []) 2 0).locals
    ≡ (
      [] ∷ ((5, pos 7) ∷ []) ∷ [] ∷ [] ∷ [],
      ([] ∷ [] ∷ (5 ∷ []) ∷ [] ∷ [] ∷ [] ∷ [] ∷ []) ∷ ([] ∷ [] ∷ [] ∷ [] ∷ [] ∷ [] ∷ [] ∷ []) ∷ ([] ∷ (1 ∷ []) ∷ (3 ∷ []) ∷ (3 ∷ []) ∷ [] ∷ [] ∷ [] ∷ []) ∷ [],
    )
    ∷ (
      [] ∷ ((4, pos 7) ∷ []) ∷ ((0, pos 4) ∷ []) ∷ [] ∷ [],
      ([] ∷ (5 ∷ []) ∷ [] ∷ [] ∷ [] ∷ [] ∷ [] ∷ []) ∷ ((9 ∷ []) ∷ [] ∷ [] ∷ [] ∷ [] ∷ [] ∷ [] ∷ []) ∷ ([] ∷ (3 ∷ []) ∷ (3 ∷ []) ∷ (2 ∷ []) ∷ [] ∷ [] ∷ [] ∷ []) ∷ [],
    ) ∷ []
unfolding sorted sights_of contains stratum strata chart mesh_label row_values data_words dof_words fields assigned held_cells held ranks_at owner local_mesh plain_dist
labels_and_fields_over_ranks = refl

-- of what a rank is given, the marks and the rows of its vertices and cells
abbrev handed_out : ScatterPart → List Mark × List (List (Option (List ℤ)))
handed_out part = (part.marks, part.rows)

-- the mark of the edge goes to both ranks, and each row to those that have its vertex or cell
marks_and_rows_over_ranks : map handed_out (plain_scatter marked_triangles [] (0 ∷ 1 ∷ []) 2).parts
    ≡ (mark 1 (2 ∷ 1 ∷ []) (pos 7) ∷ [], (None ∷ Some (pos 5 ∷ []) ∷ None ∷ []) ∷ (None ∷ []) ∷ [])
    ∷ (mark 1 (2 ∷ 1 ∷ []) (pos 7) ∷ mark 2 (1 ∷ 3 ∷ 2 ∷ []) (pos 4) ∷ [], (Some (pos 5 ∷ []) ∷ None ∷ None ∷ []) ∷ (Some (pos 9 ∷ []) ∷ []) ∷ []) ∷ []
unfolding sorted sights_of contains stratum strata chart row_values assigned ranks_at owner scatter_part plain_scatter
marks_and_rows_over_ranks = refl

-- the meshes with marks and data are right
right_meshes : list_all is_right (with_marks ∷ with_data ∷ marked_triangles ∷ []) ≡ true
unfolding sorted sights_of contains
right_meshes = refl
