-- Charts by keys: what can be told of points to another rank, which numbers them otherwise and knows no vertices of them.
use Rattle.std.specs.Prelude.{◌≡◌, ℕ, true, false, ◌+◌, ◌-◌, ◌==◌, if◌then◌else◌, List, [], ◌++◌, length, map, slice_index, ℤ, pos, Contains, unwrap_or}
use Rattle.std.specs.List.{position_or_len, AllByRecursion}
use Rattle.mesh_defs.specs.declared.Poly.{Poly}
use Rattle.mesh_defs.specs.declared.ConeEntry.{ConeEntry}
use Rattle.plain_lists.specs.Lists.{picked}
use Rattle.mesh_defs.specs.Tables.{Facet, dim_of, facets_of}
use Rattle.mesh_defs.specs.Mesh.{Mesh, Cell}
use Rattle.mesh_defs.specs.Points.{Sight, point_on, key}
use Rattle.mesh_defs.specs.Diagram.{seen_under, stratum, Covering, Diagram}
use Rattle.plex_defs.specs.Closure.{point_in}
use Rattle.rank_laws.specs.orient_laws.Named.{keys_of, chart_stratum}

-- an entry of a cone: the key of the point that is covered, which is one dimension lower, and its orientation
pub record KeyedEntry : Type 0 where
  pub key : ℕ
  pub o : ℤ

-- a point: its polytope, its key and its cone
pub record KeyedPoint : Type 0 where
  pub poly : Poly
  pub key : ℕ
  pub covers : List KeyedEntry

-- the points of a chart by dimension, of which a flat mesh has no faces
pub record KeyedChart : Type 0 where
  pub dim : ℕ
  pub cells : List KeyedPoint
  pub vertices : List KeyedPoint
  pub faces : List KeyedPoint
  pub edges : List KeyedPoint

abbrev pub point_keys : List KeyedPoint → List ℕ
point_keys points = map (λ (q : KeyedPoint). q.key) points

-- ---- of a mesh

-- the entry of a facet of this list
unfoldable pub keyed_entry : Mesh → List ℕ → Facet → KeyedEntry
keyed_entry m list facet =
    let seen = picked list facet.corners in
    record { key = unwrap_or (key m (point_on facet.poly seen)) 0; o = unwrap_or (seen_under m facet.poly seen) (pos 0) }

unfoldable pub keyed_point : Mesh → Sight → KeyedPoint
keyed_point m s = record { poly = s.poly; key = s.key; covers = map (keyed_entry m s.arrangement) (facets_of s.poly) }

-- the points of one dimension that these cells contain
unfoldable pub keyed_stratum : Mesh → List (ℕ × Cell) → ℕ → List KeyedPoint
keyed_stratum m cells dim = map (keyed_point m) (chart_stratum m cells dim)

-- the points that these cells contain
unfoldable pub keyed_chart : Mesh → List (ℕ × Cell) → KeyedChart
keyed_chart m cells = record {
  dim = m.dim;
  cells = keyed_stratum m cells m.dim;
  vertices = keyed_stratum m cells 0;
  faces = if m.dim == 3 then keyed_stratum m cells 2 else [];
  edges = keyed_stratum m cells 1;
}

-- what is told is true of a point of the mesh in this dimension
pub record IsKeyedPoint (m : Mesh) (dim : ℕ) (q : KeyedPoint) : Type 0 where
  pub sight : Sight
  pub there : Contains (stratum m dim) sight
  pub told : q ≡ keyed_point m sight

-- points of the mesh that have the keys of a stratum, in order
pub record IsToldStratum (m : Mesh) (these : List (ℕ × Cell)) (dim : ℕ) (points : List KeyedPoint) : Type 0 where
  pub told : AllByRecursion (IsKeyedPoint m dim) points
  pub keys : point_keys points ≡ keys_of (chart_stratum m these dim)

-- so for each dimension, where a flat mesh has no faces
pub record IsToldChart (m : Mesh) (these : List (ℕ × Cell)) (x : KeyedChart) : Type 0 where
  pub dim : x.dim ≡ m.dim
  pub cells : IsToldStratum m these m.dim x.cells
  pub vertices : IsToldStratum m these 0 x.vertices
  pub faces : (m.dim == 3) ≡ true → IsToldStratum m these 2 x.faces
  pub no_faces : (m.dim == 3) ≡ false → x.faces ≡ []
  pub edges : IsToldStratum m these 1 x.edges

-- ---- numbers

-- the place of a key among some points
abbrev pub place_of_key : List KeyedPoint → ℕ → ℕ
place_of_key points k = position_or_len (λ (q : KeyedPoint). q.key == k) points

-- The number of the point of a dimension with a key: the points that stand before its stratum, and its place there. Cells come
-- first, then vertices, faces and edges.
unfoldable pub keyed_place : KeyedChart → ℕ → ℕ → ℕ
keyed_place x dim k =
    if dim == x.dim then place_of_key x.cells k
    else if dim == 0 then length x.cells + place_of_key x.vertices k
    else if dim == 2 then length x.cells + length x.vertices + place_of_key x.faces k
    else length x.cells + length x.vertices + length x.faces + place_of_key x.edges k

-- a point with its cone by numbers
unfoldable pub numbered : KeyedChart → KeyedPoint → Covering
numbered x q = record { poly = q.poly; covers = map (λ (e : KeyedEntry). record { point = keyed_place x (dim_of q.poly - 1) e.key; o = e.o }) q.covers }

-- the diagram that a chart by keys tells
unfoldable pub diagram_of_keyed : KeyedChart → Diagram
diagram_of_keyed x = record {
  dim = x.dim;
  cells = length x.cells;
  vertices = length x.vertices;
  faces = length x.faces;
  edges = length x.edges;
  points = map (numbered x) (x.cells ++ x.vertices ++ x.faces ++ x.edges);
}

-- ---- from a diagram

-- what is told of point p of a diagram, where each number has such a key
unfoldable pub keyed_at : Diagram → List ℕ → ℕ → KeyedPoint
keyed_at x keys p = record { poly = (point_in x p).poly; key = slice_index keys p; covers = map (λ (e : ConeEntry). record { key = slice_index keys e.point; o = e.o }) (point_in x p).covers }
