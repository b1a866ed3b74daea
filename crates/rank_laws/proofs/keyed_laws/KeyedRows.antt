-- Worked rows: two triangles by keys, as one of two ranks has them.
use Rattle.std.proofs.Common.{◌≡◌, ℕ, ◌==◌, List, [], ◌∷◌, ◌++◌, ℤ, pos, negsuc, refl}
use Rattle.std.specs.Prelude.{flat_map, map, filter}
use Rattle.mesh_defs.specs.declared.Poly.{Poly}
use Rattle.mesh_defs.specs.declared.Poly.TheVariants.{Vertex, Segment, Triangle}
use Rattle.mesh_defs.specs.declared.ConeEntry.{ConeEntry}
use Rattle.plain_lists.specs.Lists.{below, sorted}
use Rattle.mesh_defs.specs.Orientation.{rotations, reflections, orientations, corners_under, act, relative}
use Rattle.mesh_defs.specs.Mesh.{Cell}
use Rattle.mesh_defs.specs.Points.{sights_of, first_sight, key, arrangement, contains}
use Rattle.mesh_defs.specs.Diagram.{stratum, strata, chart, place_in, seen_under, entry, cone, Diagram, diagram}
use Rattle.plex_defs.proofs.Meshes.{two_triangles}
use Rattle.rank_defs.specs.Ranks.{rank_of, assigned}
use Rattle.rank_laws.specs.orient_laws.Named.{keys_of, chart_stratum}
use Rattle.rank_laws.specs.keyed_laws.Keyed.{KeyedEntry, KeyedPoint, KeyedChart, keyed_entry, keyed_point, keyed_stratum, keyed_chart, keyed_place, numbered, diagram_of_keyed, keyed_at}

abbrev told : Poly → ℕ → List KeyedEntry → KeyedPoint
told poly k covers = record { poly = poly; key = k; covers = covers }

abbrev by_key : ℕ → ℤ → KeyedEntry
by_key k o = record { key = k; o = o }

abbrev by_number : ℕ → ℤ → ConeEntry
by_number p o = record { point = p; o = o }

abbrev end : ℕ → KeyedEntry
end v = by_key v (pos 0)

-- the second triangle, whose last edge the first one sees first, and the other way round
abbrev second : List (ℕ × Cell)
second = (1, record { poly = Triangle; vertices = 1 ∷ 3 ∷ 2 ∷ [] }) ∷ []

abbrev second_keyed : KeyedChart
second_keyed = record {
  dim = 2;
  cells = told Triangle 64 (by_key 72 (pos 0) ∷ by_key 73 (pos 0) ∷ by_key 9 (negsuc 0) ∷ []) ∷ [];
  vertices = told Vertex 1 [] ∷ told Vertex 2 [] ∷ told Vertex 3 [] ∷ [];
  faces = [];
  edges = told Segment 9 (end 1 ∷ end 2 ∷ []) ∷ told Segment 72 (end 1 ∷ end 3 ∷ []) ∷ told Segment 73 (end 3 ∷ end 2 ∷ []) ∷ [];
}

second_by_keys : keyed_chart two_triangles second ≡ second_keyed
unfolding sorted sights_of contains stratum chart_stratum first_sight key arrangement rotations reflections orientations corners_under act relative seen_under keyed_entry keyed_point keyed_stratum keyed_chart
second_by_keys = refl

-- the cell is 0, the vertices are 1 to 3 and the edges 4 to 6
abbrev second_diagram : Diagram
second_diagram = record {
  dim = 2;
  cells = 1;
  vertices = 3;
  faces = 0;
  edges = 3;
  points = record { poly = Triangle; covers = by_number 5 (pos 0) ∷ by_number 6 (pos 0) ∷ by_number 4 (negsuc 0) ∷ [] }
      ∷ record { poly = Vertex; covers = [] } ∷ record { poly = Vertex; covers = [] } ∷ record { poly = Vertex; covers = [] }
      ∷ record { poly = Segment; covers = by_number 1 (pos 0) ∷ by_number 2 (pos 0) ∷ [] }
      ∷ record { poly = Segment; covers = by_number 1 (pos 0) ∷ by_number 3 (pos 0) ∷ [] }
      ∷ record { poly = Segment; covers = by_number 3 (pos 0) ∷ by_number 2 (pos 0) ∷ [] } ∷ [];
}

second_told : diagram_of_keyed second_keyed ≡ second_diagram
unfolding keyed_place numbered diagram_of_keyed
second_told = refl

second_drawn : diagram two_triangles second ≡ second_diagram
unfolding sorted sights_of contains stratum strata chart first_sight arrangement rotations reflections orientations corners_under act relative seen_under entry cone diagram
second_drawn = refl

-- the edges of each triangle, and of both
edges_of_each : map (λ r. keys_of (chart_stratum two_triangles (assigned two_triangles (0 ∷ 1 ∷ []) r) 1)) (0 ∷ 1 ∷ []) ≡ (8 ∷ 9 ∷ 10 ∷ []) ∷ (9 ∷ 72 ∷ 73 ∷ []) ∷ []
unfolding sorted sights_of contains stratum chart_stratum assigned
edges_of_each = refl

edges_of_both : keys_of (chart_stratum two_triangles (flat_map (λ r. assigned two_triangles (0 ∷ 1 ∷ []) r) (1 ∷ 0 ∷ [])) 1) ≡ 8 ∷ 9 ∷ 10 ∷ 72 ∷ 73 ∷ []
unfolding sorted sights_of contains stratum chart_stratum assigned
edges_of_both = refl

-- the points of the second triangle, read off its diagram and keys
second_read : map (keyed_at second_diagram (64 ∷ 1 ∷ 2 ∷ 3 ∷ 9 ∷ 72 ∷ 73 ∷ [])) (below 7) ≡ second_keyed.cells ++ second_keyed.vertices ++ second_keyed.edges
unfolding keyed_at
second_read = refl

-- the numbers of its shared edge and of its last vertex, by place and by key
by_place : map (place_in (chart two_triangles second)) (record { dim = 1; vertices = 1 ∷ 2 ∷ [] } ∷ record { dim = 0; vertices = 3 ∷ [] } ∷ []) ≡ 4 ∷ 3 ∷ []
unfolding sorted sights_of contains stratum strata chart
by_place = refl

by_keys : keyed_place second_keyed 1 9 ∷ keyed_place second_keyed 0 3 ∷ [] ≡ 4 ∷ 3 ∷ []
unfolding keyed_place
by_keys = refl

-- where the ranks change triangles, rank 0 is given the edges of the second one by rank 1 alone
given_edges : map (λ q. keys_of (chart_stratum two_triangles (filter (λ c. rank_of (1 ∷ 0 ∷ []) c == 0) (assigned two_triangles (0 ∷ 1 ∷ []) q)) 1)) (0 ∷ 1 ∷ []) ≡ [] ∷ (9 ∷ 72 ∷ 73 ∷ []) ∷ []
unfolding sorted sights_of contains stratum chart_stratum assigned
given_edges = refl

next_edges : keys_of (chart_stratum two_triangles (assigned two_triangles (1 ∷ 0 ∷ []) 0) 1) ≡ 9 ∷ 72 ∷ 73 ∷ []
unfolding sorted sights_of contains stratum chart_stratum assigned
next_edges = refl
