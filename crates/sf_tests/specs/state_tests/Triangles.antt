-- Two triangles that share an edge, one on each of two ranks.
use Rattle.std.specs.Prelude.{ℕ, List, [], ◌∷◌, ℤ, pos, negsuc}
use Rattle.mesh_defs.specs.declared.Poly.TheVariants.{Vertex, Segment, Triangle}
use Rattle.mesh_defs.specs.declared.ConeEntry.{ConeEntry}
use Rattle.mesh_defs.specs.Mesh.{Mesh, Cell}
use Rattle.mesh_defs.specs.Diagram.{Covering, Diagram}
use Rattle.sf_defs.specs.Forest.{Forest, leaf}
use Rattle.rank_defs.specs.Spread.{LocalMesh, PlainDist}

-- the corners of a square
abbrev pub corners : List (List ℤ)
corners = (pos 0 ∷ pos 0 ∷ pos 0 ∷ []) ∷ (pos 10000000000 ∷ pos 0 ∷ pos 0 ∷ []) ∷ (pos 0 ∷ pos 10000000000 ∷ pos 0 ∷ []) ∷ (pos 10000000000 ∷ pos 10000000000 ∷ pos 0 ∷ []) ∷ []

abbrev pub cell : List ℕ → Cell
cell vertices = record { poly = Triangle; vertices = vertices }

abbrev pub two_triangles : Mesh
two_triangles = record {
  dim = 2;
  at = corners;
  cells = cell (0 ∷ 1 ∷ 2 ∷ []) ∷ cell (1 ∷ 3 ∷ 2 ∷ []) ∷ [];
  marks = [];
  names = [];
  fields = [];
  unused = 0;
  loose = 0;
  merged = 0;
}

-- ---- what each rank holds

abbrev to : ℕ → ℤ → ConeEntry
to p o = record { point = p; o = o }

abbrev vertex : Covering
vertex = record { poly = Vertex; covers = [] }

abbrev edge : ℕ → ℕ → Covering
edge a b = record { poly = Segment; covers = to a (pos 0) ∷ to b (pos 0) ∷ [] }

abbrev triangle : List ConeEntry → Covering
triangle covers = record { poly = Triangle; covers = covers }

abbrev of_one : List Covering → Diagram
of_one points = record { dim = 2; cells = 1; vertices = 3; faces = 0; edges = 3; points = points }

abbrev pub first_diagram : Diagram
first_diagram = of_one (triangle (to 4 (pos 0) ∷ to 5 (pos 0) ∷ to 6 (pos 0) ∷ []) ∷ vertex ∷ vertex ∷ vertex ∷ edge 1 2 ∷ edge 2 3 ∷ edge 3 1 ∷ [])

abbrev pub second_diagram : Diagram
second_diagram = of_one (triangle (to 5 (pos 0) ∷ to 6 (pos 0) ∷ to 4 (negsuc 0) ∷ []) ∷ vertex ∷ vertex ∷ vertex ∷ edge 1 2 ∷ edge 1 3 ∷ edge 3 2 ∷ [])

abbrev pub first_local : LocalMesh
first_local = record {
  diagram = first_diagram;
  keys = 0 ∷ 0 ∷ 1 ∷ 2 ∷ 8 ∷ 9 ∷ 10 ∷ [];
  owners = 0 ∷ 0 ∷ 0 ∷ 0 ∷ 0 ∷ 0 ∷ 0 ∷ [];
  labels = [] ∷ [] ∷ [] ∷ [] ∷ [];
  fields = [];
  at = (pos 0 ∷ pos 0 ∷ pos 0 ∷ []) ∷ (pos 10000000000 ∷ pos 0 ∷ pos 0 ∷ []) ∷ (pos 0 ∷ pos 10000000000 ∷ pos 0 ∷ []) ∷ [];
}

abbrev pub second_local : LocalMesh
second_local = record {
  diagram = second_diagram;
  keys = 64 ∷ 1 ∷ 2 ∷ 3 ∷ 9 ∷ 72 ∷ 73 ∷ [];
  owners = 1 ∷ 0 ∷ 0 ∷ 1 ∷ 0 ∷ 1 ∷ 1 ∷ [];
  labels = [] ∷ [] ∷ [] ∷ [] ∷ [];
  fields = [];
  at = (pos 10000000000 ∷ pos 0 ∷ pos 0 ∷ []) ∷ (pos 0 ∷ pos 10000000000 ∷ pos 0 ∷ []) ∷ (pos 10000000000 ∷ pos 10000000000 ∷ pos 0 ∷ []) ∷ [];
}

-- ---- the distribution

abbrev pub shared_points : Forest
shared_points = record { roots = 7 ∷ 7 ∷ []; leaves = [] ∷ (leaf 1 (0, 2) ∷ leaf 2 (0, 3) ∷ leaf 4 (0, 5) ∷ []) ∷ [] }

abbrev pub two_ranks : PlainDist
two_ranks = record { cells = 2; overlap = 0; sections = 0; points = shared_points; locals = first_local ∷ second_local ∷ [] }
