-- Worked rows: assignments of the rows are right; and what goes wrong where a condition on meshes or assignments is left out.
use Rattle.std.proofs.Common.{◌≡◌, ℕ, ◌+◌, ◌*◌, ◌/◌, ◌^◌, ◌<◌, Bool, true, false, ◌&&◌, ◌==◌, nat_lt, nat_le, List, [], ◌∷◌, length, map, replicate, ℤ, pos, negsuc, refl}
use Rattle.std.specs.Prelude.{flat_map}
use Rattle.std.specs.List.{list_all}
use Rattle.std.proofs.lemmas.Bool.{and_parts, eqb-true, ltb-true, leb-true}
use Rattle.plain_lists.specs.Lists.{sorted}
use Rattle.plain_lists.proofs.Each.{all_weaker, each_passes}
use Rattle.mesh_defs.specs.declared.Poly.TheVariants.{Vertex, Segment, Triangle}
use Rattle.mesh_defs.specs.declared.Place.TheVariants.{Node}
use Rattle.mesh_defs.specs.declared.ConeEntry.{ConeEntry}
use Rattle.mesh_defs.specs.Orientation.{rotations, reflections, orientations, corners_under, act, relative}
use Rattle.mesh_defs.specs.Mesh.{Mesh, Mark, Row, placed_cells}
use Rattle.mesh_defs.specs.Points.{Sight, point_on, sights_of, first_sight, arrangement, contains}
use Rattle.mesh_defs.specs.Sights.{points_differ}
use Rattle.mesh_defs.specs.Diagram.{Diagram, stratum, strata, chart, place_in, seen_under, entry, cone, diagram}
use Rattle.plex_defs.specs.Labels.{mesh_label}
use Rattle.plex_defs.specs.Fields.{row_values, data_words, fields}
use Rattle.rank_defs.specs.Ranks.{IsRightAssignment, assigned, held_cells, held, ranks_at, owner, owned}
use Rattle.rank_defs.specs.Spread.{LocalMesh, charts, point_forest, local_mesh, plain_dist, scatter_part, plain_scatter, own_chart, shared_part, plain_shared}
use Rattle.plex_defs.proofs.Meshes.{bare, two_triangles, strip}

-- ---- a test of right assignments

abbrev is_right_assignment : Mesh → ℕ → List ℕ → Bool
is_right_assignment m n a = nat_le 1 n && (nat_le n 64 && ((length a == length m.cells) && list_all (λ r. nat_lt r n) a))

-- an assignment that passes is right
pub right-assignment : (m : Mesh) (n : ℕ) (a : List ℕ) → is_right_assignment m n a ≡ true → IsRightAssignment m n a
right-assignment m n a h =
    let some = and_parts (nat_le 1 n) _ h in
    let few = and_parts (nat_le n 64) _ some.1 in
    let each = and_parts (length a == length m.cells) (list_all (λ r. nat_lt r n) a) few.1 in
    record { some_rank = leb-true 1 n some.0; few_ranks = leb-true n 64 few.0; each = record { count = eqb-true (length a) (length m.cells) each.0; in_range = all_weaker (λ r. nat_lt r n ≡ true) (λ r. r < n) (λ r e. ltb-true r n e) a (each_passes (λ r. nat_lt r n) a each.1) } }

strip_in_blocks_is_right : IsRightAssignment strip 4 (0 ∷ 0 ∷ 1 ∷ 1 ∷ 2 ∷ 2 ∷ 3 ∷ 3 ∷ [])
strip_in_blocks_is_right = right-assignment strip 4 (0 ∷ 0 ∷ 1 ∷ 1 ∷ 2 ∷ 2 ∷ 3 ∷ 3 ∷ []) refl

-- ---- one value for two meshes whose diagrams differ

-- the diagrams of all ranks
abbrev drawn : Mesh → List ℕ → ℕ → List Diagram
drawn m a n = map (λ (l : LocalMesh). l.diagram) (plain_dist m [] a n 0).locals

abbrev dims : List Diagram → List ℕ
dims ds = map (λ (d : Diagram). d.dim) ds

abbrev turns : List Diagram → List ℤ
turns ds = flat_map (λ (d : Diagram). flat_map (λ c. map (λ (e : ConeEntry). e.o) c.covers) d.points) ds

-- without a cell: a flat mesh and a solid one
no_cells : (plain_shared (bare 2 0 Triangle []) [] [] 1 ≡ plain_shared (bare 3 0 Triangle []) [] [] 1) × (dims (drawn (bare 2 0 Triangle []) [] 1) ≡ 2 ∷ []) × (dims (drawn (bare 3 0 Triangle []) [] 1) ≡ 3 ∷ [])
unfolding sorted stratum strata chart diagram held_cells held assigned ranks_at owner charts point_forest local_mesh plain_dist own_chart shared_part plain_shared fields mesh_label
no_cells = (refl, refl, refl)

-- With a cell of a rank that there is not: nothing is told of the cell, and still the edge that it shares with the other cell
-- has its list.
abbrev outside : List ℕ → Mesh
outside vertices = bare 2 4 Triangle (vertices ∷ (1 ∷ 3 ∷ 2 ∷ []) ∷ [])

no_such_rank : (plain_shared (outside (0 ∷ 1 ∷ 2 ∷ [])) [] (9 ∷ 0 ∷ []) 1 ≡ plain_shared (outside (0 ∷ 2 ∷ 1 ∷ [])) [] (9 ∷ 0 ∷ []) 1)
    × (turns (drawn (outside (0 ∷ 1 ∷ 2 ∷ [])) (9 ∷ 0 ∷ []) 1) ≡ pos 0 ∷ pos 0 ∷ negsuc 0 ∷ replicate 6 (pos 0)) × (turns (drawn (outside (0 ∷ 2 ∷ 1 ∷ [])) (9 ∷ 0 ∷ []) 1) ≡ replicate 9 (pos 0))
unfolding sorted rotations reflections orientations corners_under act relative sights_of first_sight arrangement contains seen_under entry cone stratum strata chart diagram held_cells held assigned ranks_at owner charts point_forest local_mesh plain_dist own_chart shared_part plain_shared fields mesh_label
no_such_rank = (refl, refl, refl)

-- a cell without a rank counts as one of rank 0
no_rank : plain_dist two_triangles [] (0 ∷ []) 1 0 ≡ plain_dist two_triangles [] (0 ∷ 0 ∷ []) 1 0
unfolding sorted rotations reflections orientations corners_under act relative sights_of first_sight arrangement contains seen_under entry cone stratum strata chart diagram held_cells held assigned ranks_at owner charts point_forest local_mesh plain_dist fields mesh_label
no_rank = refl

-- ---- cells that are not sound

-- in a mesh of dimension 1 the cells are its edges, and the chart has them twice
segments_stand_twice : points_differ (strata (bare 1 2 Segment ((0 ∷ 1 ∷ []) ∷ []))) ≡ false
unfolding sorted sights_of stratum strata
segments_stand_twice = refl

-- a triangle in a solid mesh is no cell of its diagram
no_cell_of_the_dimension : (diagram (bare 3 3 Triangle ((0 ∷ 1 ∷ 2 ∷ []) ∷ [])) (placed_cells (bare 3 3 Triangle ((0 ∷ 1 ∷ 2 ∷ []) ∷ [])))).cells ≡ 0
unfolding sorted rotations reflections orientations corners_under act relative sights_of first_sight arrangement contains seen_under entry cone stratum strata chart diagram
no_cell_of_the_dimension = refl

-- a triangle on two vertices, and one on the same vertex twice, have an edge from a vertex to itself
edges_to_themselves : map (λ vertices. map (λ (s : Sight). s.arrangement) (stratum (bare 2 2 Triangle (vertices ∷ [])) 1)) ((0 ∷ 1 ∷ []) ∷ (0 ∷ 0 ∷ 1 ∷ []) ∷ []) ≡ ((0 ∷ 1 ∷ []) ∷ (0 ∷ 0 ∷ []) ∷ []) ∷ ((0 ∷ 0 ∷ []) ∷ (0 ∷ 1 ∷ []) ∷ []) ∷ []
unfolding sorted sights_of stratum
edges_to_themselves = refl

-- a corner that is no vertex has no place among the points, so that cones name what is not there
no_such_vertex : let points = strata (bare 2 3 Triangle ((0 ∷ 1 ∷ 5 ∷ []) ∷ [])) in (place_in points (point_on Vertex (5 ∷ [])) ≡ 7) × (length points ≡ 7)
unfolding sorted sights_of stratum strata
no_such_vertex = (refl, refl)

-- two cells on the same vertices are one point
cells_on_one_set : (diagram (bare 2 3 Triangle ((0 ∷ 1 ∷ 2 ∷ []) ∷ (0 ∷ 2 ∷ 1 ∷ []) ∷ [])) (placed_cells (bare 2 3 Triangle ((0 ∷ 1 ∷ 2 ∷ []) ∷ (0 ∷ 2 ∷ 1 ∷ []) ∷ [])))).cells ≡ 1
unfolding sorted rotations reflections orientations corners_under act relative sights_of first_sight arrangement contains seen_under entry cone stratum strata chart diagram
cells_on_one_set = refl

-- a vertex in no cell is a point that no rank owns
unused_vertex : (length (strata (bare 2 4 Triangle ((0 ∷ 1 ∷ 2 ∷ []) ∷ []))) ≡ 8) × (length (owned (bare 2 4 Triangle ((0 ∷ 1 ∷ 2 ∷ []) ∷ [])) (0 ∷ []) 0) ≡ 7)
unfolding sorted sights_of contains stratum strata chart held_cells held assigned ranks_at owner owned
unused_vertex = (refl, refl)

-- ---- coordinates, data and marks

-- coordinates one after another do not tell their vertices, where these have not three each
abbrev at_two : List ℤ → List ℤ → Mesh
at_two first second = record (bare 2 2 Triangle []) { at = first ∷ second ∷ [] }

coordinates_run_together : flat_map (λ (at : List ℤ). at) (at_two (pos 1 ∷ []) (pos 2 ∷ pos 3 ∷ [])).at ≡ flat_map (λ (at : List ℤ). at) (at_two (pos 1 ∷ pos 2 ∷ []) (pos 3 ∷ [])).at
coordinates_run_together = refl

abbrev with_rows : ℕ → List Row → Mesh
with_rows comps rows = record two_triangles { fields = record { on = Node; name = []; comps = comps; rows = rows } ∷ [] }

abbrev row : ℕ → List ℤ → Row
row number values = record { number = number; values = values }

-- the words at each point, of all points of one rank with all cells
abbrev words_of : Mesh → List (List ℕ)
words_of m = flat_map (λ (l : LocalMesh). flat_map (λ f. f) l.fields) (plain_dist m [] (0 ∷ 0 ∷ []) 1 0).locals

-- so do values that are not as many as the components
values_run_together : flat_map (λ ws. ws) (words_of (with_rows 2 (row 0 (pos 1 ∷ []) ∷ row 1 (pos 2 ∷ pos 3 ∷ []) ∷ []))) ≡ flat_map (λ ws. ws) (words_of (with_rows 2 (row 0 (pos 1 ∷ pos 2 ∷ []) ∷ row 1 (pos 3 ∷ []) ∷ [])))
unfolding sorted rotations reflections orientations corners_under act relative sights_of first_sight arrangement contains seen_under entry cone stratum strata chart diagram held_cells held assigned ranks_at owner charts point_forest local_mesh plain_dist row_values data_words fields mesh_label
values_run_together = refl

-- a row without components is as if there were none; so is one on a vertex that there is not
rows_that_are_lost : (words_of (with_rows 0 (row 0 [] ∷ [])) ≡ words_of (with_rows 0 [])) × (plain_scatter (with_rows 1 (row 7 (pos 1 ∷ []) ∷ [])) [] (0 ∷ 1 ∷ []) 2 ≡ plain_scatter (with_rows 1 []) [] (0 ∷ 1 ∷ []) 2)
unfolding sorted rotations reflections orientations corners_under act relative sights_of first_sight arrangement contains seen_under entry cone stratum strata chart diagram held_cells held assigned ranks_at owner charts point_forest local_mesh plain_dist row_values data_words fields mesh_label scatter_part plain_scatter
rows_that_are_lost = (refl, refl)

-- no rank is given a mark that is on no point: here on the other diagonal of a square
abbrev with_marks : List Mark → Mesh
with_marks marks = record two_triangles { marks = marks }

mark_that_is_lost : plain_scatter (with_marks (record { dim = 1; vertices = 0 ∷ 3 ∷ []; value = pos 4 } ∷ [])) [] (0 ∷ 1 ∷ []) 2 ≡ plain_scatter (with_marks []) [] (0 ∷ 1 ∷ []) 2
unfolding sorted sights_of contains stratum strata chart held_cells held assigned ranks_at owner scatter_part plain_scatter
mark_that_is_lost = refl

-- ---- limits

-- With at most 250,000 cells each key fits 32 bits, and so do the words that dofs give fit 64 bits: word 15 of a point that
-- all cells contain. With 2^26 cells a key would not fit, with 2^31 cells such a word.
keys_fit : map (λ cells. nat_lt (64 * cells) (2 ^ 32)) (250000 ∷ (2 ^ 26) ∷ []) ≡ true ∷ false ∷ []
keys_fit = refl

weights_fit : map (λ cells. nat_lt (16 * (cells * (cells + 1) / 2)) (2 ^ 64)) (250000 ∷ (2 ^ 31) ∷ []) ≡ true ∷ false ∷ []
weights_fit = refl
