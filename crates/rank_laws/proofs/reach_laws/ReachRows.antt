-- Worked rows: what is reached from a triangle, and from cells in diagrams of two cells.
use Rattle.std.proofs.Common.{◌≡◌, ℕ, true, false, List, [], ◌∷◌, refl}
use Rattle.std.specs.Prelude.{map, filter}
use Rattle.std.specs.List.{list_any}
use Rattle.mesh_defs.specs.declared.Poly.TheVariants.{Triangle, Hex}
use Rattle.plain_lists.specs.Lists.{below, sorted}
use Rattle.mesh_defs.specs.Orientation.{rotations, reflections, orientations, corners_under, act, relative}
use Rattle.mesh_defs.specs.Mesh.{placed_cells}
use Rattle.mesh_defs.specs.Points.{Point, shows, sights_of, first_sight, arrangement, contains}
use Rattle.mesh_defs.specs.Diagram.{stratum, strata, chart, place_in, seen_under, entry, cone, diagram}
use Rattle.plex_defs.proofs.Meshes.{two_triangles, two_tetrahedra, twisted_hexahedra}
use Rattle.rank_defs.specs.Ranks.{assigned, layer, held_cells}
use Rattle.walk_defs.specs.Cones.{reaches}
use Rattle.rank_laws.specs.reach_laws.Reached.{reached}

abbrev point : ℕ → List ℕ → Point
point dim vertices = record { dim = dim; vertices = vertices }

-- a triangle, and each edge of it with its ends
from_a_triangle : reached 2 Triangle (4 ∷ 2 ∷ 7 ∷ [])
    ≡ point 2 (2 ∷ 4 ∷ 7 ∷ []) ∷ point 1 (2 ∷ 4 ∷ []) ∷ point 0 (4 ∷ []) ∷ point 0 (2 ∷ []) ∷ point 1 (2 ∷ 7 ∷ []) ∷ point 0 (2 ∷ []) ∷ point 0 (7 ∷ []) ∷ point 1 (4 ∷ 7 ∷ []) ∷ point 0 (7 ∷ []) ∷ point 0 (4 ∷ []) ∷ []
unfolding sorted
from_a_triangle = refl

-- of the edges of two triangles the second one has the shared one, and not the first
shown_edges : map (λ p. list_any (shows p) (chart two_triangles ((1, record { poly = Triangle; vertices = 1 ∷ 3 ∷ 2 ∷ [] }) ∷ []))) (point 1 (1 ∷ 2 ∷ []) ∷ point 1 (0 ∷ 1 ∷ []) ∷ []) ≡ true ∷ false ∷ []
unfolding sorted sights_of contains stratum strata chart
shown_edges = refl

-- from the second of two triangles: itself, its vertices and its edges, of which the first one is shared
from_the_second_triangle : filter (λ p. reaches (diagram two_triangles (placed_cells two_triangles)) 2 p 1) (below 11) ≡ 1 ∷ 3 ∷ 4 ∷ 5 ∷ 7 ∷ 9 ∷ 10 ∷ []
unfolding sorted sights_of contains stratum strata chart first_sight arrangement rotations reflections orientations corners_under act relative seen_under entry cone diagram
from_the_second_triangle = refl

-- from the second of two tetrahedra, where one rank holds both
from_the_second_tetrahedron : filter (λ p. reaches (diagram two_tetrahedra (held_cells two_tetrahedra (0 ∷ 1 ∷ []) 1 1)) 3 p 1) (below 23) ≡ 1 ∷ 3 ∷ 4 ∷ 5 ∷ 6 ∷ 9 ∷ 11 ∷ 12 ∷ 13 ∷ 15 ∷ 18 ∷ 19 ∷ 20 ∷ 21 ∷ 22 ∷ []
unfolding sorted sights_of contains stratum strata chart first_sight arrangement rotations reflections orientations corners_under act relative seen_under entry cone diagram assigned layer held_cells
from_the_second_tetrahedron = refl

-- Two hexahedra that see their face with two corners swapped: there the second one leads to an edge that it does not contain.
twisted_face : reaches (diagram twisted_hexahedra (placed_cells twisted_hexahedra)) 3 (place_in (chart twisted_hexahedra (placed_cells twisted_hexahedra)) (point 1 (4 ∷ 5 ∷ []))) 1 ≡ true
unfolding sorted sights_of contains stratum strata chart first_sight arrangement rotations reflections orientations corners_under act relative seen_under entry cone diagram
twisted_face = refl

twisted_edge : contains (record { poly = Hex; vertices = 4 ∷ 6 ∷ 5 ∷ 7 ∷ 8 ∷ 9 ∷ 10 ∷ 11 ∷ [] }) (point 1 (4 ∷ 5 ∷ [])) ≡ false
unfolding sorted sights_of contains
twisted_edge = refl
