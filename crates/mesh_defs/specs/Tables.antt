-- Facets and edges of the polytopes, by their corners: the cones of the reference cells of DMPlex, with this
-- library's own numbering.
use Rattle.std.specs.Prelude.{ℕ, List, [], ◌∷◌, map, get_or}
use Rattle.mesh_defs.specs.declared.Poly.{Poly}
use Rattle.mesh_defs.specs.declared.Poly.TheVariants.{Vertex, Segment, Triangle, Quad, Tet, Hex}

-- one facet: its polytope, and its corners among those of the whole
pub record Facet : Type 0 where
  pub poly : Poly
  pub corners : List ℕ

abbrev pub dim_of : Poly → ℕ
dim_of Vertex = 0
dim_of Segment = 1
dim_of Triangle = 2
dim_of Quad = 2
dim_of Tet = 3
dim_of Hex = 3

abbrev pub corner_count : Poly → ℕ
corner_count Vertex = 1
corner_count Segment = 2
corner_count Triangle = 3
corner_count Quad = 4
corner_count Tet = 4
corner_count Hex = 8

abbrev facet : Poly → List ℕ → Facet
facet p c = record { poly = p; corners = c }

-- the edges of polygons and solids
abbrev pub edges_of : Poly → List (List ℕ)
edges_of Vertex = []
edges_of Segment = []
edges_of Triangle = (0 ∷ 1 ∷ []) ∷ (1 ∷ 2 ∷ []) ∷ (2 ∷ 0 ∷ []) ∷ []
edges_of Quad = (0 ∷ 1 ∷ []) ∷ (1 ∷ 2 ∷ []) ∷ (2 ∷ 3 ∷ []) ∷ (3 ∷ 0 ∷ []) ∷ []
edges_of Tet = (0 ∷ 1 ∷ []) ∷ (1 ∷ 2 ∷ []) ∷ (2 ∷ 0 ∷ []) ∷ (0 ∷ 3 ∷ []) ∷ (1 ∷ 3 ∷ []) ∷ (2 ∷ 3 ∷ []) ∷ []
edges_of Hex = (0 ∷ 1 ∷ []) ∷ (1 ∷ 2 ∷ []) ∷ (2 ∷ 3 ∷ []) ∷ (3 ∷ 0 ∷ []) ∷ (4 ∷ 5 ∷ []) ∷ (5 ∷ 6 ∷ []) ∷ (6 ∷ 7 ∷ []) ∷ (7 ∷ 4 ∷ [])
    ∷ (0 ∷ 4 ∷ []) ∷ (1 ∷ 5 ∷ []) ∷ (2 ∷ 6 ∷ []) ∷ (3 ∷ 7 ∷ []) ∷ []

-- the facets, one dimension below: the ends of a segment, the edges of a polygon, the faces of a solid
abbrev pub facets_of : Poly → List Facet
facets_of Vertex = []
facets_of Segment = facet Vertex (0 ∷ []) ∷ facet Vertex (1 ∷ []) ∷ []
facets_of Triangle = map (facet Segment) (edges_of Triangle)
facets_of Quad = map (facet Segment) (edges_of Quad)
facets_of Tet = map (facet Triangle) ((0 ∷ 2 ∷ 1 ∷ []) ∷ (0 ∷ 1 ∷ 3 ∷ []) ∷ (1 ∷ 2 ∷ 3 ∷ []) ∷ (0 ∷ 3 ∷ 2 ∷ []) ∷ [])
facets_of Hex = map (facet Quad) ((0 ∷ 3 ∷ 2 ∷ 1 ∷ []) ∷ (4 ∷ 5 ∷ 6 ∷ 7 ∷ []) ∷ (0 ∷ 1 ∷ 5 ∷ 4 ∷ []) ∷ (1 ∷ 2 ∷ 6 ∷ 5 ∷ []) ∷ (2 ∷ 3 ∷ 7 ∷ 6 ∷ []) ∷ (3 ∷ 0 ∷ 4 ∷ 7 ∷ []) ∷ [])

-- facet k; past the last one there is no facet, and this is one without corners
abbrev pub facet_at : Poly → ℕ → Facet
facet_at p k = get_or (facets_of p) k (facet Vertex [])

-- the corners of edge e
abbrev pub edge_at : Poly → ℕ → List ℕ
edge_at p e = get_or (edges_of p) e []
