-- Worked rows of charts by keys: two triangles over two ranks, told by keys.
use Rattle.std.proofs.Common.{◌≡◌, ℕ, ◌==◌, List, [], ◌∷◌, map, ℤ, pos, negsuc, refl, arith}
use Rattle.std.specs.Prelude.{filter}
use Rattle.mesh_defs.specs.declared.Poly.{Poly}
use Rattle.mesh_defs.specs.declared.Poly.TheVariants.{Vertex, Segment, Triangle}
use Rattle.plain_lists.specs.Lists.{sorted}
use Rattle.mesh_defs.specs.Orientation.{rotations, reflections, orientations, corners_under, act, relative}
use Rattle.mesh_defs.specs.Mesh.{Cell}
use Rattle.mesh_defs.specs.Points.{Sight, sights_of, first_sight, key, arrangement, contains}
use Rattle.mesh_defs.specs.Diagram.{stratum, strata, chart, seen_under, twist_key, IsAccepted}
use Rattle.mesh_defs.specs.RightMesh.{IsRightMesh, CellsDiffer, AreCells}
use Rattle.mesh_defs.proofs.RightMeshes.{right-mesh}
use Rattle.plex_defs.proofs.Meshes.{two_triangles, two_tetrahedra}
use Rattle.sf_defs.specs.Asks.{IsRising}
use Rattle.rank_defs.specs.Ranks.{IsRightAssignment, rank_of, assigned}
use Rattle.rank_defs.proofs.RightRows.{right-assignment}
use Rattle.rank_laws.specs.orient_laws.Named.{keys_of, chart_stratum}
use Rattle.rank_laws.specs.keyed_laws.Keyed.{KeyedEntry, KeyedPoint, KeyedChart, point_keys, keyed_entry, keyed_point, keyed_stratum, keyed_chart, IsToldStratum, IsToldChart}

-- ---- what the laws ask

triangles_are_right : IsRightMesh two_triangles
unfolding sorted
triangles_are_right = right-mesh two_triangles refl

triangles_differ : CellsDiffer two_triangles
unfolding sorted
triangles_differ = refl

triangles_are_accepted : IsAccepted two_triangles
unfolding sorted rotations reflections orientations corners_under act relative sights_of first_sight arrangement seen_under twist_key
triangles_are_accepted = refl

tetrahedra_are_right : IsRightMesh two_tetrahedra
unfolding sorted
tetrahedra_are_right = right-mesh two_tetrahedra refl

tetrahedra_are_accepted : IsAccepted two_tetrahedra
unfolding sorted rotations reflections orientations corners_under act relative sights_of first_sight arrangement seen_under twist_key
tetrahedra_are_accepted = refl

halves_are_right : IsRightAssignment two_triangles 2 (0 ∷ 1 ∷ [])
halves_are_right = right-assignment two_triangles 2 (0 ∷ 1 ∷ []) refl

abbrev triangle : ℕ → List ℕ → ℕ × Cell
triangle c vertices = (c, record { poly = Triangle; vertices = vertices })

abbrev first : ℕ × Cell
first = triangle 0 (0 ∷ 1 ∷ 2 ∷ [])

abbrev second : ℕ × Cell
second = triangle 1 (1 ∷ 3 ∷ 2 ∷ [])

second_is_cell : AreCells two_triangles (second ∷ [])
second_is_cell = ((1, omega arith, refl), tt)

-- ---- the second triangle, as whoever told of its points

abbrev told : Poly → ℕ → List KeyedEntry → KeyedPoint
told poly k covers = record { poly = poly; key = k; covers = covers }

abbrev by_key : ℕ → ℤ → KeyedEntry
by_key k o = record { key = k; o = o }

abbrev seen : ℕ → Poly → List ℕ → Sight
seen k poly vertices = record { key = k; poly = poly; arrangement = vertices }

abbrev told_edge : ℕ → ℕ → ℕ → KeyedPoint
told_edge k v w = told Segment k (by_key v (pos 0) ∷ by_key w (pos 0) ∷ [])

abbrev told_second : KeyedChart
told_second = record {
  dim = 2;
  cells = told Triangle 64 (by_key 72 (pos 0) ∷ by_key 73 (pos 0) ∷ by_key 9 (negsuc 0) ∷ []) ∷ [];
  vertices = told Vertex 1 [] ∷ told Vertex 2 [] ∷ told Vertex 3 [] ∷ [];
  faces = [];
  edges = told_edge 9 1 2 ∷ told_edge 72 1 3 ∷ told_edge 73 3 2 ∷ [];
}

cells_are_told : IsToldStratum two_triangles (second ∷ []) 2 told_second.cells
unfolding sorted sights_of contains stratum chart_stratum first_sight key arrangement rotations reflections orientations corners_under act relative seen_under keyed_entry keyed_point
cells_are_told = record { told = (record { sight = seen 64 Triangle (1 ∷ 3 ∷ 2 ∷ []); there = (1, omega arith, refl); told = refl }, tt); keys = refl }

vertices_are_told : IsToldStratum two_triangles (second ∷ []) 0 told_second.vertices
unfolding sorted sights_of contains stratum chart_stratum first_sight key arrangement rotations reflections orientations corners_under act relative seen_under keyed_entry keyed_point
vertices_are_told = record {
  told = (
    record { sight = seen 1 Vertex (1 ∷ []); there = (1, omega arith, refl); told = refl },
    (record { sight = seen 2 Vertex (2 ∷ []); there = (2, omega arith, refl); told = refl }, (record { sight = seen 3 Vertex (3 ∷ []); there = (3, omega arith, refl); told = refl }, tt)),
  );
  keys = refl;
}

edges_are_told : IsToldStratum two_triangles (second ∷ []) 1 told_second.edges
unfolding sorted sights_of contains stratum chart_stratum first_sight key arrangement rotations reflections orientations corners_under act relative seen_under keyed_entry keyed_point
edges_are_told = record {
  told = (
    record { sight = seen 9 Segment (1 ∷ 2 ∷ []); there = (1, omega arith, refl); told = refl },
    (record { sight = seen 72 Segment (1 ∷ 3 ∷ []); there = (3, omega arith, refl); told = refl }, (record { sight = seen 73 Segment (3 ∷ 2 ∷ []); there = (4, omega arith, refl); told = refl }, tt)),
  );
  keys = refl;
}

chart_is_told : IsToldChart two_triangles (second ∷ []) told_second
chart_is_told = record { dim = refl; cells = cells_are_told; vertices = vertices_are_told; faces = λ solid. absurd (cc solid); no_faces = λ flat. refl; edges = edges_are_told }

chart_by_keys : keyed_chart two_triangles (second ∷ []) ≡ told_second
unfolding sorted sights_of contains stratum chart_stratum first_sight key arrangement rotations reflections orientations corners_under act relative seen_under keyed_entry keyed_point keyed_stratum keyed_chart
chart_by_keys = refl

-- its edges stand by rising key
edge_keys : point_keys told_second.edges ≡ 9 ∷ 72 ∷ 73 ∷ []
edge_keys = refl

edge_keys_rise : IsRising (9 ∷ 72 ∷ 73 ∷ [])
edge_keys_rise = ((omega arith, (omega arith, tt)), ((omega arith, tt), (tt, tt)))

-- ---- charts of cells in any order

-- both triangles, and the second one once more before them
keys_of_both : map (λ cells. keys_of (chart two_triangles cells)) ((first ∷ second ∷ []) ∷ (second ∷ first ∷ second ∷ []) ∷ []) ≡ (0 ∷ 64 ∷ 0 ∷ 1 ∷ 2 ∷ 3 ∷ 8 ∷ 9 ∷ 10 ∷ 72 ∷ 73 ∷ []) ∷ (0 ∷ 64 ∷ 0 ∷ 1 ∷ 2 ∷ 3 ∷ 8 ∷ 9 ∷ 10 ∷ 72 ∷ 73 ∷ []) ∷ []
unfolding sorted sights_of contains stratum strata chart
keys_of_both = refl

edges_of_both : map (λ cells. keys_of (chart_stratum two_triangles cells 1)) ((first ∷ second ∷ []) ∷ (second ∷ first ∷ second ∷ []) ∷ []) ≡ (8 ∷ 9 ∷ 10 ∷ 72 ∷ 73 ∷ []) ∷ (8 ∷ 9 ∷ 10 ∷ 72 ∷ 73 ∷ []) ∷ []
unfolding sorted sights_of contains stratum chart_stratum
edges_of_both = refl

-- where the ranks change triangles, rank 0 gets the second one from rank 1
next_charts : keys_of (chart two_triangles (assigned two_triangles (1 ∷ 0 ∷ []) 0)) ∷ keys_of (chart two_triangles (filter (λ c. rank_of (1 ∷ 0 ∷ []) c == 0) (assigned two_triangles (0 ∷ 1 ∷ []) 1))) ∷ [] ≡ (64 ∷ 1 ∷ 2 ∷ 3 ∷ 9 ∷ 72 ∷ 73 ∷ []) ∷ (64 ∷ 1 ∷ 2 ∷ 3 ∷ 9 ∷ 72 ∷ 73 ∷ []) ∷ []
unfolding sorted sights_of contains stratum strata chart assigned
next_charts = refl
