-- Worked rows: what the definitions compute, against tables and meshes worked out by hand.
use Rattle.std.proofs.Common.{◌≡◌, ℕ, ◌*◌, ◌+◌, List, [], ◌∷◌, ◌++◌, length, map, get_or, replicate, ℤ, pos, negsuc, Option, Some, None, refl}
use Rattle.std.specs.List.{enumerate_from}
use Rattle.std.specs.Prelude.{true, false, drop, count_by, sum_by, ◌==◌, ◌&&◌, ◌%◌, take, slice_get, option_map}
use Rattle.mesh_defs.specs.declared.Poly.{Poly}
use Rattle.mesh_defs.specs.declared.Poly.TheVariants.{Vertex, Segment, Triangle, Quad, Tet, Hex}
use Rattle.mesh_defs.specs.declared.ConeEntry.{ConeEntry}
use Rattle.plain_lists.specs.Lists.{below, sorted, differ_as_sets}
use Rattle.mesh_defs.specs.Tables.{edges_of, facets_of}
use Rattle.mesh_defs.specs.Orientation.{rotations, reflections, orientations, corners_under, act, relative}
use Rattle.mesh_defs.specs.Mesh.{Mesh, Cell, placed_cells}
use Rattle.mesh_defs.specs.Points.{Point, sights_of, first_sight, key, arrangement, contains, vertex_sight, cell_sight, cell_face, cell_edge}
use Rattle.mesh_defs.specs.Sights.{edge_sight, points_differ}
use Rattle.mesh_defs.specs.Diagram.{stratum, strata, chart, place_in, seen_under, entry, cone, twist_key, count_in}

-- ---- tables

-- how often the boundary of a facet runs from a to b
abbrev runs : ℕ → ℕ → List ℕ → ℕ
runs a b corners = count_by (λ k. (get_or corners k 0 == a) && (get_or corners ((k + 1) % length corners) 0 == b)) (below (length corners))

-- how often the facets of a solid run along an edge, this way and the other way
abbrev both_ways : Poly → List ℕ → List ℕ
both_ways p edge = sum_by (λ f. runs (get_or edge 0 0) (get_or edge 1 0) f.corners) (facets_of p) ∷ sum_by (λ f. runs (get_or edge 1 0) (get_or edge 0 0) f.corners) (facets_of p) ∷ []

-- every edge of a tetrahedron runs once each way over its facets
tet_edges : map (both_ways Tet) (edges_of Tet) ≡ replicate 6 (1 ∷ 1 ∷ [])
tet_edges = refl

-- every edge of a hexahedron runs once each way over its facets
hex_edges : map (both_ways Hex) (edges_of Hex) ≡ replicate 12 (1 ∷ 1 ∷ [])
hex_edges = refl

-- ---- orientations

-- a list of corners, from the number with these digits, least place last
abbrev orders : Poly → List (List ℕ) × List (List ℕ)
orders p = (rotations p, reflections p)

triangle_turns : orders Triangle ≡ ((0 ∷ 1 ∷ 2 ∷ []) ∷ (1 ∷ 2 ∷ 0 ∷ []) ∷ (2 ∷ 0 ∷ 1 ∷ []) ∷ [], (0 ∷ 2 ∷ 1 ∷ []) ∷ (1 ∷ 0 ∷ 2 ∷ []) ∷ (2 ∷ 1 ∷ 0 ∷ []) ∷ [])
unfolding rotations reflections
triangle_turns = refl

quad_turns : orders Quad
    ≡ (
      (0 ∷ 1 ∷ 2 ∷ 3 ∷ []) ∷ (1 ∷ 2 ∷ 3 ∷ 0 ∷ []) ∷ (2 ∷ 3 ∷ 0 ∷ 1 ∷ []) ∷ (3 ∷ 0 ∷ 1 ∷ 2 ∷ []) ∷ [],
      (0 ∷ 3 ∷ 2 ∷ 1 ∷ []) ∷ (1 ∷ 0 ∷ 3 ∷ 2 ∷ []) ∷ (2 ∷ 1 ∷ 0 ∷ 3 ∷ []) ∷ (3 ∷ 2 ∷ 1 ∷ 0 ∷ []) ∷ [],
    )
unfolding rotations reflections
quad_turns = refl

-- the hexahedron has 24 orientations of each sense
hex_counts : (length (rotations Hex) ≡ 24) × (length (reflections Hex) ≡ 24)
unfolding rotations reflections
hex_counts = (refl, refl)

-- the first three of each
hex_rotations : take 3 (rotations Hex) ≡ (0 ∷ 1 ∷ 2 ∷ 3 ∷ 4 ∷ 5 ∷ 6 ∷ 7 ∷ []) ∷ (0 ∷ 3 ∷ 7 ∷ 4 ∷ 1 ∷ 2 ∷ 6 ∷ 5 ∷ []) ∷ (0 ∷ 4 ∷ 5 ∷ 1 ∷ 3 ∷ 7 ∷ 6 ∷ 2 ∷ []) ∷ []
unfolding rotations
hex_rotations = refl

hex_reflections : take 3 (reflections Hex) ≡ (0 ∷ 1 ∷ 5 ∷ 4 ∷ 3 ∷ 2 ∷ 6 ∷ 7 ∷ []) ∷ (0 ∷ 3 ∷ 2 ∷ 1 ∷ 4 ∷ 7 ∷ 6 ∷ 5 ∷ []) ∷ (0 ∷ 4 ∷ 7 ∷ 3 ∷ 1 ∷ 5 ∷ 6 ∷ 2 ∷ []) ∷ []
unfolding reflections
hex_reflections = refl

-- how many orientations each polytope has
orientation_counts : map (λ p. length (orientations p)) (Vertex ∷ Segment ∷ Triangle ∷ Quad ∷ Tet ∷ Hex ∷ []) ≡ 1 ∷ 2 ∷ 6 ∷ 8 ∷ 24 ∷ 48 ∷ []
unfolding orientations rotations reflections
orientation_counts = refl

-- a quadrilateral is not seen with two corners swapped
swapped_quad : relative Quad (4 ∷ 5 ∷ 6 ∷ 7 ∷ []) (4 ∷ 7 ∷ 5 ∷ 6 ∷ []) ≡ None
unfolding relative orientations rotations reflections act corners_under
swapped_quad = refl

-- ---- two solids that share a face

-- a mesh of solids on n vertices, without coordinates
abbrev solids : ℕ → List Cell → Mesh
solids n cells = record { dim = 3; at = replicate n []; cells = cells; marks = []; names = []; fields = []; unused = 0; loose = 0; merged = 0 }

abbrev cell : Poly → List ℕ → Cell
cell p vertices = record { poly = p; vertices = vertices }

-- points of each dimension, the key of the shared face, and the orientation of entry 0 in the cone of the second cell
abbrev summary : Mesh → Point → List ℕ × (Option ℕ × (Option ℕ × Option ℤ))
summary m shared =
    let points = chart m (placed_cells m) in
    (map (λ d. count_in d points) (below 4), (key m shared, (twist_key m, option_map (λ (e : ConeEntry). e.o) (slice_get (cone m (place_in points) (get_or points 1 (vertex_sight 0))) 0))))

abbrev two_tets : List ℕ → List ℕ × (Option ℕ × (Option ℕ × Option ℤ))
two_tets second = summary (solids 5 (cell Tet (0 ∷ 1 ∷ 2 ∷ 3 ∷ []) ∷ cell Tet second ∷ [])) (record { dim = 2; vertices = 1 ∷ 2 ∷ 3 ∷ [] })

-- 5 vertices, 9 edges, 7 faces, 2 cells; the shared face has the key 3; no face is twisted
abbrev shared_triangle : ℤ → List ℕ × (Option ℕ × (Option ℕ × Option ℤ))
shared_triangle o = (5 ∷ 9 ∷ 7 ∷ 2 ∷ [], (Some 3, (None, Some o)))

two_tetrahedra : map two_tets ((1 ∷ 2 ∷ 3 ∷ 4 ∷ []) ∷ (1 ∷ 3 ∷ 2 ∷ 4 ∷ []) ∷ (2 ∷ 1 ∷ 3 ∷ 4 ∷ []) ∷ (2 ∷ 3 ∷ 1 ∷ 4 ∷ []) ∷ (3 ∷ 1 ∷ 2 ∷ 4 ∷ []) ∷ (3 ∷ 2 ∷ 1 ∷ 4 ∷ []) ∷ [])
    ≡ map shared_triangle (negsuc 0 ∷ pos 0 ∷ pos 1 ∷ negsuc 1 ∷ negsuc 2 ∷ pos 2 ∷ [])
unfolding sorted rotations reflections orientations corners_under act relative sights_of first_sight key arrangement contains stratum strata chart seen_under entry cone twist_key
two_tetrahedra = refl

abbrev two_hexes : List ℕ → List ℕ × (Option ℕ × (Option ℕ × Option ℤ))
two_hexes low =
    summary (solids 12 (cell Hex (0 ∷ 1 ∷ 2 ∷ 3 ∷ 4 ∷ 5 ∷ 6 ∷ 7 ∷ []) ∷ cell Hex (low ++ 8 ∷ 9 ∷ 10 ∷ 11 ∷ []) ∷ [])) (record { dim = 2; vertices = 4 ∷ 5 ∷ 6 ∷ 7 ∷ [] })

-- 12 vertices, 20 edges, 11 faces, 2 cells; the shared face has the key 2; no face is twisted
abbrev shared_quad : ℤ → List ℕ × (Option ℕ × (Option ℕ × Option ℤ))
shared_quad o = (12 ∷ 20 ∷ 11 ∷ 2 ∷ [], (Some 2, (None, Some o)))

two_hexahedra_turned : map two_hexes ((4 ∷ 5 ∷ 6 ∷ 7 ∷ []) ∷ (5 ∷ 6 ∷ 7 ∷ 4 ∷ []) ∷ (6 ∷ 7 ∷ 4 ∷ 5 ∷ []) ∷ (7 ∷ 4 ∷ 5 ∷ 6 ∷ []) ∷ []) ≡ map shared_quad (negsuc 0 ∷ negsuc 1 ∷ negsuc 2 ∷ negsuc 3 ∷ [])
unfolding sorted rotations reflections orientations corners_under act relative sights_of first_sight key arrangement contains stratum strata chart seen_under entry cone twist_key
two_hexahedra_turned = refl

two_hexahedra_kept : map two_hexes ((4 ∷ 7 ∷ 6 ∷ 5 ∷ []) ∷ (5 ∷ 4 ∷ 7 ∷ 6 ∷ []) ∷ (6 ∷ 5 ∷ 4 ∷ 7 ∷ []) ∷ (7 ∷ 6 ∷ 5 ∷ 4 ∷ []) ∷ []) ≡ map shared_quad (pos 0 ∷ pos 1 ∷ pos 2 ∷ pos 3 ∷ [])
unfolding sorted rotations reflections orientations corners_under act relative sights_of first_sight key arrangement contains stratum strata chart seen_under entry cone twist_key
two_hexahedra_kept = refl

-- two hexahedra that see their shared face with two corners swapped: cell 1 sees its face 0 under no orientation
twisted_hexahedra : twist_key (solids 12 (cell Hex (0 ∷ 1 ∷ 2 ∷ 3 ∷ 4 ∷ 5 ∷ 6 ∷ 7 ∷ []) ∷ cell Hex (4 ∷ 6 ∷ 5 ∷ 7 ∷ 8 ∷ 9 ∷ 10 ∷ 11 ∷ []) ∷ [])) ≡ Some (64 * 1 + 1 + 0)
unfolding sorted rotations reflections orientations corners_under act relative sights_of first_sight arrangement seen_under twist_key
twisted_hexahedra = refl

-- ---- sights by name

-- cell 3 sees itself, its face 1 and its edge 5
sights_of_a_tetrahedron : let c = cell Tet (7 ∷ 5 ∷ 9 ∷ 2 ∷ []) in
    (cell_sight 3 c ≡ record { key = 192; poly = Tet; arrangement = 7 ∷ 5 ∷ 9 ∷ 2 ∷ [] })
    × (map (cell_face 3 c) (take 1 (drop 1 (enumerate_from 0 (facets_of Tet)))) ≡ record { key = 194; poly = Triangle; arrangement = 7 ∷ 5 ∷ 2 ∷ [] } ∷ [])
    × (map (cell_edge 3 c) (drop 5 (enumerate_from 0 (edges_of Tet))) ≡ edge_sight 205 9 2 ∷ [])
sights_of_a_tetrahedron = (refl, refl, refl)

-- an edge the other way is the same point, also under another key
different_points : map points_differ ((edge_sight 8 0 1 ∷ edge_sight 9 1 2 ∷ []) ∷ (edge_sight 8 0 1 ∷ vertex_sight 0 ∷ edge_sight 72 1 0 ∷ []) ∷ [] ∷ []) ≡ true ∷ false ∷ true ∷ []
unfolding sorted
different_points = refl

different_sets : map differ_as_sets (((0 ∷ 1 ∷ 2 ∷ []) ∷ (1 ∷ 3 ∷ 2 ∷ []) ∷ []) ∷ ((0 ∷ 1 ∷ 2 ∷ []) ∷ (3 ∷ []) ∷ (2 ∷ 0 ∷ 1 ∷ []) ∷ []) ∷ ((0 ∷ 1 ∷ []) ∷ (0 ∷ 0 ∷ 1 ∷ []) ∷ []) ∷ []) ≡ true ∷ false ∷ true ∷ []
unfolding sorted
different_sets = refl
