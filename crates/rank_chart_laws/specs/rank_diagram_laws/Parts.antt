-- What a rank has of a mesh, by strata: its cells, its vertices, its faces and edges by key; and the diagram that these make.
use Rattle.std.specs.Prelude.{◌≡◌, ◌≢◌, ◌⊎◌, ℕ, true, ◌+◌, ◌^◌, ◌<◌, ◌==◌, if◌then◌else◌, List, [], ◌∷◌, ◌++◌, length, map, slice_index, pos, None}
use Rattle.std.specs.List.{list_any, position_or_len, AllByRecursion}
use Rattle.plain_lists.specs.Lists.{picked}
use Rattle.mesh_defs.specs.declared.Poly.TheVariants.{Segment}
use Rattle.mesh_defs.specs.declared.ConeEntry.{ConeEntry}
use Rattle.mesh_defs.specs.Tables.{Facet, dim_of, corner_count, facets_of}
use Rattle.mesh_defs.specs.Mesh.{Mesh, Cell}
use Rattle.mesh_defs.specs.Points.{Sight, point_on, shows}
use Rattle.mesh_defs.specs.Sights.{IsEdgeSight}
use Rattle.mesh_defs.specs.Diagram.{Covering, Diagram}
use Rattle.rank_chart_laws.specs.meeting_laws.Sets.{Rising}
use Rattle.rank_laws.specs.orient_laws.Named.{chart_stratum}
use Rattle.rank_laws.specs.diagram_laws.Strata.{face_sights, cone_from, bare_cover, first_twist}
use Rattle.rank_chart_laws.specs.OwnRanks.{own_vertices}

-- cells, vertices by position, faces of a solid mesh and edges by key
pub record Parts : Type 0 where
  pub dim : ℕ
  pub cells : List (ℕ × Cell)
  pub vertices : List ℕ
  pub faces : List Sight
  pub edges : List Sight

-- the faces that some cells have in their chart: none in a flat mesh
abbrev pub held_faces : Mesh → List (ℕ × Cell) → List Sight
held_faces m cells = if m.dim == 3 then chart_stratum m cells 2 else []

-- what these cells have
abbrev pub parts_of : Mesh → List (ℕ × Cell) → Parts
parts_of m cells = record { dim = m.dim; cells = cells; vertices = own_vertices m cells; faces = held_faces m cells; edges = chart_stratum m cells 1 }

-- ---- points with their cones

-- the facets of cells: faces where the mesh is solid, edges where it is flat
abbrev pub sides : Parts → List Sight
sides p = if p.dim == 3 then p.faces else p.edges

-- a cell, whose facets stand behind the vertices
abbrev pub cell_part : Parts → ℕ × Cell → Covering
cell_part p c = record { poly = c.1.poly; covers = cone_from (length p.cells + length p.vertices) (sides p) c.1.poly c.1.vertices }

-- a face, whose facets are edges, which stand behind the faces
abbrev pub face_part : Parts → Sight → Covering
face_part p s = record { poly = s.poly; covers = cone_from (length p.cells + length p.vertices + length p.faces) p.edges s.poly s.arrangement }

-- the entry of a vertex: its place among the vertices, which stand behind the cells
abbrev pub end_part : Parts → ℕ → ConeEntry
end_part p v = record { point = length p.cells + position_or_len (λ w. w == v) p.vertices; o = pos 0 }

-- an edge, which covers its two ends
abbrev pub edge_part : Parts → Sight → Covering
edge_part p s = record { poly = Segment; covers = end_part p (slice_index s.arrangement 0) ∷ end_part p (slice_index s.arrangement 1) ∷ [] }

-- the diagram
abbrev pub parts_diagram : Parts → Diagram
parts_diagram p = record {
  dim = p.dim;
  cells = length p.cells;
  vertices = length p.vertices;
  faces = length p.faces;
  edges = length p.edges;
  points = map (cell_part p) p.cells ++ map (λ (v : ℕ). bare_cover) p.vertices ++ map (face_part p) p.faces ++ map (edge_part p) p.edges;
}

-- ---- parts that fit together

-- as many different vertices as corners
pub record IsList (corners : ℕ) (vertices : List ℕ) : Type 0 where
  pub long : length vertices ≡ corners
  pub different : (i j : ℕ) → i < j → j < length vertices → slice_index vertices i ≢ slice_index vertices j

-- each facet on this list is one of these points
abbrev pub HasFacets : List Sight → List Facet → List ℕ → Type 0
HasFacets points facets list = AllByRecursion (λ (f : Facet). list_any (shows (point_on f.poly (picked list f.corners))) points ≡ true) facets

-- a cell of the dimension, whose facets are there
pub record IsCellPart (p : Parts) (c : ℕ × Cell) : Type 0 where
  pub dim : dim_of c.1.poly ≡ p.dim
  pub list : IsList (corner_count c.1.poly) c.1.vertices
  pub facets : HasFacets (sides p) (facets_of c.1.poly) c.1.vertices

-- a polygon
pub record IsFacePart (s : Sight) : Type 0 where
  pub dim : dim_of s.poly ≡ 2
  pub list : IsList (corner_count s.poly) s.arrangement

-- an edge whose ends are vertices
pub record IsEdgePart (p : Parts) (s : Sight) : Type 0 where
  pub edge : IsEdgeSight (2 ^ 32) s
  pub first : list_any (λ w. w == slice_index s.arrangement 0) p.vertices ≡ true
  pub second : list_any (λ w. w == slice_index s.arrangement 1) p.vertices ≡ true

-- Flat or solid parts that fit together, and whose points 32 bits can name. The sides of faces are edges where no cell sees a
-- face under no orientation.
pub record AreParts (p : Parts) : Type 0 where
  pub dim : (p.dim ≡ 2) ⊎ (p.dim ≡ 3)
  pub flat : p.dim ≡ 2 → p.faces ≡ []
  pub fits : length p.cells + length p.vertices + length p.faces + length p.edges < 2 ^ 32
  pub rising : Rising p.vertices
  pub cells : AllByRecursion (IsCellPart p) p.cells
  pub faces : AllByRecursion IsFacePart p.faces
  pub sides : first_twist p.faces (face_sights p.cells) ≡ None → AllByRecursion (λ (s : Sight). HasFacets p.edges (facets_of s.poly) s.arrangement) p.faces
  pub edges : AllByRecursion (IsEdgePart p) p.edges
