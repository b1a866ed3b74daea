-- Worked rows: supports, stars and closures of two triangles and two tetrahedra on one rank; a section and a label.
use Rattle.std.proofs.Common.{◌≡◌, ℕ, List, [], ◌∷◌, map, ℤ, pos, negsuc, refl}
use Rattle.std.specs.Prelude.{◌-◌, length, sum}
use Rattle.mesh_defs.specs.declared.ConeEntry.{ConeEntry}
use Rattle.plain_lists.specs.Lists.{sorted}
use Rattle.mesh_defs.specs.Orientation.{rotations, reflections, orientations, corners_under, act, relative}
use Rattle.mesh_defs.specs.Mesh.{placed_cells}
use Rattle.mesh_defs.specs.Points.{sights_of, first_sight, key, arrangement, contains}
use Rattle.mesh_defs.specs.Diagram.{Diagram, stratum, strata, chart, seen_under, entry, cone, diagram}
use Rattle.plex_defs.specs.Closure.{support, levels, closure, star, arrangements}
use Rattle.plex_defs.specs.Labels.{label_of, points_with, values_at}
use Rattle.plex_defs.specs.Fields.{offset, weight}
use Rattle.plex_defs.proofs.Meshes.{two_triangles, two_tetrahedra}

abbrev drawn : Diagram
drawn = diagram two_triangles (placed_cells two_triangles)

abbrev lists : List (List ℕ)
lists = arrangements (chart two_triangles (placed_cells two_triangles))

supports_of_the_shared_edge : support drawn 7 ≡ 0 ∷ 1 ∷ []
unfolding sorted rotations reflections orientations corners_under act relative sights_of first_sight key arrangement contains stratum strata chart seen_under entry cone diagram support
supports_of_the_shared_edge = refl

star_of_a_vertex : star drawn lists 3 ≡ 0 ∷ 1 ∷ 3 ∷ 6 ∷ 7 ∷ 9 ∷ []
unfolding sorted rotations reflections orientations corners_under act relative sights_of first_sight key arrangement contains stratum strata chart seen_under entry cone diagram closure star
star_of_a_vertex = refl

abbrev at : ℕ → ℤ → ConeEntry
at p o = record { point = p; o = o }

closure_turned_over : closure drawn lists 1 (negsuc 0) ≡ at 1 (negsuc 0) ∷ at 7 (pos 0) ∷ at 10 (negsuc 0) ∷ at 9 (negsuc 0) ∷ at 3 (pos 0) ∷ at 4 (pos 0) ∷ at 5 (pos 0) ∷ []
unfolding sorted rotations reflections orientations corners_under act relative sights_of first_sight key arrangement contains stratum strata chart seen_under entry cone diagram closure
closure_turned_over = refl

closures_of_cells : map (λ c. closure drawn lists c (pos 0)) (0 ∷ 1 ∷ [])
    ≡ (at 0 (pos 0) ∷ at 6 (pos 0) ∷ at 7 (pos 0) ∷ at 8 (pos 0) ∷ at 2 (pos 0) ∷ at 3 (pos 0) ∷ at 4 (pos 0) ∷ [])
    ∷ (at 1 (pos 0) ∷ at 9 (pos 0) ∷ at 10 (pos 0) ∷ at 7 (negsuc 0) ∷ at 3 (pos 0) ∷ at 5 (pos 0) ∷ at 4 (pos 0) ∷ []) ∷ []
unfolding sorted rotations reflections orientations corners_under act relative sights_of first_sight key arrangement contains stratum strata chart seen_under entry cone diagram closure
closures_of_cells = refl

-- ---- three levels: two tetrahedra

abbrev solid : Diagram
solid = diagram two_tetrahedra (placed_cells two_tetrahedra)

abbrev solid_lists : List (List ℕ)
solid_lists = arrangements (chart two_tetrahedra (placed_cells two_tetrahedra))

-- four faces as they are, six edges as the faces see them first, and four vertices
closure_of_a_tetrahedron : closure solid solid_lists 0 (pos 0)
    ≡ at 0 (pos 0)
    ∷ at 7 (pos 0) ∷ at 8 (pos 0) ∷ at 9 (pos 0) ∷ at 10 (pos 0)
    ∷ at 16 (negsuc 0) ∷ at 15 (negsuc 0) ∷ at 14 (negsuc 0) ∷ at 18 (pos 0) ∷ at 17 (negsuc 0) ∷ at 19 (pos 0)
    ∷ at 2 (pos 0) ∷ at 4 (pos 0) ∷ at 3 (pos 0) ∷ at 5 (pos 0) ∷ []
unfolding sorted rotations reflections orientations corners_under act relative sights_of first_sight key arrangement contains stratum strata chart seen_under entry cone diagram closure
closure_of_a_tetrahedron = refl

-- after no level the cell, then four faces, six edges, four vertices, and nothing more
levels_of_a_tetrahedron : map (λ n. length (levels solid solid_lists n (at 0 (pos 0) ∷ []) (at 0 (pos 0) ∷ []))) (0 ∷ 1 ∷ 2 ∷ 3 ∷ 4 ∷ []) ≡ 1 ∷ 5 ∷ 11 ∷ 15 ∷ 15 ∷ []
unfolding sorted rotations reflections orientations corners_under act relative sights_of first_sight key arrangement contains stratum strata chart seen_under entry cone diagram
levels_of_a_tetrahedron = refl

-- both cells, five faces and four edges have the vertex 3
star_in_two_tetrahedra : star solid solid_lists 5 ≡ 0 ∷ 1 ∷ 5 ∷ 8 ∷ 9 ∷ 10 ∷ 12 ∷ 13 ∷ 17 ∷ 18 ∷ 19 ∷ 22 ∷ []
unfolding sorted rotations reflections orientations corners_under act relative sights_of first_sight key arrangement contains stratum strata chart seen_under entry cone diagram closure star
star_in_two_tetrahedra = refl

-- three points with one, none and two words
section_of_three_points : (map (offset (1 ∷ 0 ∷ 2 ∷ [])) (0 ∷ 1 ∷ 2 ∷ []) ≡ 0 ∷ 1 ∷ 1 ∷ []) × (sum (1 ∷ 0 ∷ 2 ∷ []) ≡ 3)
section_of_three_points = (refl, refl)

abbrev three_pairs : List (ℕ × ℤ)
three_pairs = label_of ((4, pos 7) ∷ (2, pos 7) ∷ (4, negsuc 0) ∷ [])

label_of_three_pairs : (points_with three_pairs (pos 7) ≡ 2 ∷ 4 ∷ []) × (values_at three_pairs 4 ≡ negsuc 0 ∷ pos 7 ∷ [])
label_of_three_pairs = (refl, refl)

pair_added_again : label_of ((4, pos 7) ∷ (2, pos 7) ∷ (4, negsuc 0) ∷ (4, pos 7) ∷ []) ≡ three_pairs
pair_added_again = refl

-- a point weighs as much as its cells, and cell c weighs c + 1: the four vertices, and the shared edge
weights_of_points : map (λ vertices. weight two_triangles (record { dim = length vertices - 1; vertices = vertices })) ((0 ∷ []) ∷ (1 ∷ []) ∷ (2 ∷ []) ∷ (3 ∷ []) ∷ (1 ∷ 2 ∷ []) ∷ []) ≡ 1 ∷ 3 ∷ 3 ∷ 2 ∷ 3 ∷ []
unfolding sorted sights_of contains
weights_of_points = refl
