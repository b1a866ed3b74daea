-- The points of a mesh: cells, faces, edges and vertices, as in the interpolated diagrams of DMPlex.
use Rattle.std.specs.Prelude.{ℕ, ◌+◌, ◌*◌, Bool, ◌&&◌, ◌==◌, if◌then◌else◌, List, [], ◌∷◌, ◌++◌, length, map, find, flat_map, Option, option_map}
use Rattle.std.specs.List.{list_any, enumerate_from}
use Rattle.mesh_defs.specs.declared.Poly.{Poly}
use Rattle.mesh_defs.specs.declared.Poly.TheVariants.{Vertex, Segment}
use Rattle.plain_lists.specs.Lists.{below, same_list, sorted, picked}
use Rattle.mesh_defs.specs.Tables.{Facet, dim_of, edges_of, facets_of}
use Rattle.mesh_defs.specs.Mesh.{Mesh, Cell, Mark, placed_cells}

-- a point is a dimension and a set of vertices, as a rising list
pub record Point : Type 0 where
  pub dim : ℕ
  pub vertices : List ℕ

-- A point as one cell has it at one place of its table. The key of cell c is 64c, that of its face f 64c + 1 + f, and
-- that of its edge e 64c + 8 + e. The arrangement lists the vertices in the order of the table. A vertex is seen under
-- its own position.
pub record Sight : Type 0 where
  pub key : ℕ
  pub poly : Poly
  pub arrangement : List ℕ

abbrev pub same_point : Point → Point → Bool
same_point p q = (p.dim == q.dim) && same_list p.vertices q.vertices

-- the point of this polytope on these vertices
abbrev pub point_on : Poly → List ℕ → Point
point_on poly vertices = record { dim = dim_of poly; vertices = sorted vertices }

abbrev pub point_of : Sight → Point
point_of s = point_on s.poly s.arrangement

-- the point that a label value is on
abbrev pub marked_point : Mark → Point
marked_point mark = record { dim = mark.dim; vertices = sorted mark.vertices }

-- it is this point that is seen
abbrev pub shows : Point → Sight → Bool
shows p s = same_point p (point_of s)

abbrev sight : ℕ → Poly → List ℕ → Sight
sight k p vertices = record { key = k; poly = p; arrangement = vertices }

abbrev pub vertex_sight : ℕ → Sight
vertex_sight v = sight v Vertex (v ∷ [])

-- cell c as it sees itself, a face and an edge of it as it sees them, by their places in its table
abbrev pub cell_sight : ℕ → Cell → Sight
cell_sight c cell = sight (64 * c) cell.poly cell.vertices

abbrev pub cell_face : ℕ → Cell → ℕ × Facet → Sight
cell_face c cell f = sight (64 * c + 1 + f.0) f.1.poly (picked cell.vertices f.1.corners)

abbrev pub cell_edge : ℕ → Cell → ℕ × List ℕ → Sight
cell_edge c cell e = sight (64 * c + 8 + e.0) Segment (picked cell.vertices e.1)

-- the faces of a solid, and no other cell's
abbrev pub cell_faces : ℕ → Cell → List Sight
cell_faces c cell = if dim_of cell.poly == 3 then map (cell_face c cell) (enumerate_from 0 (facets_of cell.poly)) else []

abbrev pub cell_edges : ℕ → Cell → List Sight
cell_edges c cell = map (cell_edge c cell) (enumerate_from 0 (edges_of cell.poly))

-- what a cell contains beside its vertices, by its table: itself, the faces of a solid, and its edges
unfoldable pub sights_of : ℕ × Cell → List Sight
sights_of (c, cell) = cell_sight c cell ∷ (cell_faces c cell ++ cell_edges c cell)

-- what a list of cells sees, by rising key
abbrev pub sights : List (ℕ × Cell) → List Sight
sights cells = flat_map sights_of cells

abbrev pub vertex_sights : Mesh → List Sight
vertex_sights m = map vertex_sight (below (length m.at))

-- the first sight of a point in the whole mesh: the one with the least key
unfoldable pub first_sight : Mesh → Point → Option Sight
first_sight m p = find (shows p) (vertex_sights m ++ sights (placed_cells m))

-- the key of a point: the least 64c + place over the cells that contain it; of a vertex its position
unfoldable pub key : Mesh → Point → Option ℕ
key m p = option_map (λ (s : Sight). s.key) (first_sight m p)

-- the vertices of a point in the order that the cell of its key has them
unfoldable pub arrangement : Mesh → Point → Option (List ℕ)
arrangement m p = option_map (λ (s : Sight). s.arrangement) (first_sight m p)

-- the cell has the point by its table, which says more than that it has the point's vertices
unfoldable pub contains : Cell → Point → Bool
contains cell p = list_any (shows p) (map vertex_sight cell.vertices ++ sights_of (0, cell))
