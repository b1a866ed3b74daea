-- Faces and edges of a mesh by their first sights, cones by the places among them, and the diagram that they make.
use Rattle.std.specs.Prelude.{ℕ, ◌+◌, ◌*◌, ◌==◌, if◌then◌else◌, List, [], ◌∷◌, ◌++◌, length, map, flat_map, find, slice_index, ℤ, pos, Option, option_map, option_and_then, unwrap_or, is_none}
use Rattle.std.specs.List.{position_or_len}
use Rattle.mesh_defs.specs.declared.Poly.{Poly}
use Rattle.mesh_defs.specs.declared.Poly.TheVariants.{Vertex, Segment}
use Rattle.mesh_defs.specs.declared.ConeEntry.{ConeEntry}
use Rattle.plain_lists.specs.Lists.{below, picked}
use Rattle.mesh_defs.specs.Tables.{Facet, facets_of}
use Rattle.mesh_defs.specs.Orientation.{relative}
use Rattle.mesh_defs.specs.Mesh.{Mesh, Cell, placed_cells}
use Rattle.mesh_defs.specs.Points.{Sight, point_on, shows, cell_sight, cell_faces, cell_edges, vertex_sights}
use Rattle.mesh_defs.specs.Diagram.{firsts, Covering, Diagram}

-- ---- sights by dimension

-- how these cells see themselves, their faces where they are solids, and their edges, by rising key
abbrev pub whole_sights : List (ℕ × Cell) → List Sight
whole_sights cells = map (λ (c : ℕ × Cell). cell_sight c.0 c.1) cells

abbrev pub face_sights : List (ℕ × Cell) → List Sight
face_sights cells = flat_map (λ (c : ℕ × Cell). cell_faces c.0 c.1) cells

abbrev pub edge_sights : List (ℕ × Cell) → List Sight
edge_sights cells = flat_map (λ (c : ℕ × Cell). cell_edges c.0 c.1) cells

-- the faces of a solid mesh, and the edges of a mesh, as they are first seen
abbrev pub mesh_faces : Mesh → List Sight
mesh_faces m = firsts (face_sights (placed_cells m))

abbrev pub mesh_edges : Mesh → List Sight
mesh_edges m = firsts (edge_sights (placed_cells m))

-- all points: cells, vertices, faces, edges
abbrev pub mesh_points : Mesh → List Sight
mesh_points m = whole_sights (placed_cells m) ++ vertex_sights m ++ mesh_faces m ++ mesh_edges m

-- ---- entries by places

-- the orientation under which one of these points has the list
unfoldable pub turn_among : List Sight → Poly → List ℕ → Option ℤ
turn_among points poly list = option_and_then (λ (own : Sight). relative poly own.arrangement list) (find (shows (point_on poly list)) points)

-- the entry of a facet with this list, where these points are numbered from a base
unfoldable pub entry_from : ℕ → List Sight → Poly → List ℕ → ConeEntry
entry_from base points poly list = record { point = base + position_or_len (shows (point_on poly list)) points; o = unwrap_or (turn_among points poly list) (pos 0) }

-- the cone of a polytope on these vertices, whose facets are among these points
abbrev pub cone_from : ℕ → List Sight → Poly → List ℕ → List ConeEntry
cone_from base points poly list = map (λ (f : Facet). entry_from base points f.poly (picked list f.corners)) (facets_of poly)

-- ---- points with their cones

-- a cell: its facets are faces where the mesh is solid, and edges where it is flat, which stand behind the vertices
abbrev pub cell_cover : Mesh → ℕ × Cell → Covering
cell_cover m c = record { poly = c.1.poly; covers = cone_from (length m.cells + length m.at) (if m.dim == 3 then mesh_faces m else mesh_edges m) c.1.poly c.1.vertices }

-- a vertex, which covers nothing
abbrev pub bare_cover : Covering
bare_cover = record { poly = Vertex; covers = [] }

-- a face: its facets are edges, which stand behind the faces
abbrev pub face_cover : Mesh → Sight → Covering
face_cover m s = record { poly = s.poly; covers = cone_from (length m.cells + length m.at + length (mesh_faces m)) (mesh_edges m) s.poly s.arrangement }

-- the entry of a vertex, which stands behind the cells
abbrev pub end_entry : ℕ → ℕ → ConeEntry
end_entry cells v = record { point = cells + v; o = pos 0 }

-- an edge, which covers its two ends
abbrev pub edge_cover : ℕ → Sight → Covering
edge_cover cells s = record { poly = Segment; covers = end_entry cells (slice_index s.arrangement 0) ∷ end_entry cells (slice_index s.arrangement 1) ∷ [] }

-- the diagram by the places of first sights
abbrev pub mesh_diagram : Mesh → Diagram
mesh_diagram m = record {
  dim = m.dim;
  cells = length m.cells;
  vertices = length m.at;
  faces = length (mesh_faces m);
  edges = length (mesh_edges m);
  points = map (cell_cover m) (placed_cells m) ++ map (λ (v : ℕ). bare_cover) (below (length m.at)) ++ map (face_cover m) (mesh_faces m) ++ map (edge_cover (length m.cells)) (mesh_edges m);
}

-- ---- keys and twists

-- the keys in the order of the chart
abbrev pub mesh_keys : Mesh → List ℕ
mesh_keys m = map (λ c. 64 * c) (below (length m.cells)) ++ below (length m.at) ++ map (λ (s : Sight). s.key) (mesh_faces m) ++ map (λ (s : Sight). s.key) (mesh_edges m)

-- the key of the first of these faces that is seen under no orientation of its point among these
abbrev pub first_twist : List Sight → List Sight → Option ℕ
first_twist points faces = option_map (λ (s : Sight). s.key) (find (λ (s : Sight). is_none (turn_among points s.poly s.arrangement)) faces)
