-- A mesh spread over ranks, as plain lists for each rank: the values that the calls which distribute a mesh stand for.
-- Where a plan has `dofs` lines, `dofs` are their counts by dimension.
use Rattle.std.specs.Prelude.{◌≡◌, ℕ, not, ◌==◌, if◌then◌else◌, List, [], ◌++◌, length, map, filter, get_or, ℤ, Option}
use Rattle.std.specs.List.{list_any, enumerate_from}
use Rattle.mesh_defs.specs.declared.Place.{Place}
use Rattle.mesh_defs.specs.declared.Place.TheVariants.{Node, Element}
use Rattle.plain_lists.specs.Lists.{below}
use Rattle.mesh_defs.specs.Tables.{dim_of}
use Rattle.mesh_defs.specs.Mesh.{Mesh, Cell, Mark, Section}
use Rattle.mesh_defs.specs.Points.{Point, Sight, point_of, shows, sights, vertex_sights, contains, marked_point}
use Rattle.mesh_defs.specs.RightMesh.{IsRightMesh}
use Rattle.mesh_defs.specs.Diagram.{Diagram, firsts, chart, diagram, place_in}
use Rattle.sf_defs.specs.declared.Leaf.{Leaf}
use Rattle.sf_defs.specs.Forest.{Forest, leaf}
use Rattle.plex_defs.specs.Labels.{mesh_label}
use Rattle.plex_defs.specs.Fields.{AreRightDofs, row_values, fields}
use Rattle.rank_defs.specs.Ranks.{IsRightAssignment, assigned, held_cells, held, owner}

-- ---- forests of points

-- the charts of n ranks
unfoldable pub charts : Mesh → List ℕ → ℕ → ℕ → List (List Sight)
charts m a n k = map (λ r. held m a r k) (below n)

-- the owner of a point, and the place of the point in the owner's chart
abbrev pub place_at_owner : Mesh → List ℕ → List (List Sight) → Point → ℕ × ℕ
place_at_owner m a charts p = (owner m a p, place_in (get_or charts (owner m a p) []) p)

-- these points, given with their places, as leaves on the same points at their owners
abbrev pub leaves_at_owners : Mesh → List ℕ → List (List Sight) → List (ℕ × Sight) → List Leaf
leaves_at_owners m a charts points = map (λ s. leaf s.0 (place_at_owner m a charts (point_of s.1))) points

-- the points of a chart, with their places, that a rank owns
abbrev pub owned_places : Mesh → List ℕ → ℕ → List Sight → List (ℕ × Sight)
owned_places m a r chart = filter (λ s. owner m a (point_of s.1) == r) (enumerate_from 0 chart)

-- its ghosts with their places: the points that another rank owns
abbrev pub ghost_places : Mesh → List ℕ → ℕ → List Sight → List (ℕ × Sight)
ghost_places m a r chart = filter (λ s. not (owner m a (point_of s.1) == r)) (enumerate_from 0 chart)

-- The forest of shared points of some charts: every point is a root, and the leaves of a rank are its ghosts, each on the
-- same point at its owner.
unfoldable pub point_forest : Mesh → List ℕ → List (List Sight) → Forest
point_forest m a charts = record { roots = map length charts; leaves = map (λ r. leaves_at_owners m a charts (ghost_places m a r.0 r.1)) (enumerate_from 0 charts) }

-- The forest of a redistribution from the assignment a to b: the roots are the points of the old charts, and the leaves of
-- a rank are the points that it owns now, each on the same point at its old owner.
unfoldable pub migration_forest : Mesh → List ℕ → List ℕ → ℕ → Forest
migration_forest m a b n =
    let old = charts m a n 0 in
    record { roots = map length old; leaves = map (λ r. leaves_at_owners m a old (owned_places m b r.0 r.1)) (enumerate_from 0 (charts m b n 0)) }

-- The trace of a point under the first assignment: the owner and the local number that it had there.
unfoldable pub trace : Mesh → List ℕ → ℕ → Point → ℕ × ℕ
trace m a n p = place_at_owner m a (charts m a n 0) p

-- ---- the distributed mesh

-- What a rank holds: the diagram of its points, numbered by their places in its chart, and by that number the key, the
-- owner, the words in each field; the labels by dimension; the coordinates of the vertices.
pub record LocalMesh : Type 0 where
  pub diagram : Diagram
  pub keys : List ℕ
  pub owners : List ℕ
  pub labels : List (List (ℕ × ℤ))
  pub fields : List (List (List ℕ))
  pub at : List (List ℤ)

-- Of the whole mesh the number of cells and of data sections; the layers of overlap; the forest of shared points; and
-- what each rank holds.
pub record PlainDist : Type 0 where
  pub cells : ℕ
  pub overlap : ℕ
  pub sections : ℕ
  pub points : Forest
  pub locals : List LocalMesh

-- the vertices among some points, by position
abbrev pub vertices_among : List Sight → List ℕ
vertices_among points = map (λ (s : Sight). s.key) (filter (λ s. dim_of s.poly == 0) points)

abbrev pub coordinates_of : Mesh → List ℕ → List (List ℤ)
coordinates_of m vertices = map (λ v. get_or m.at v []) vertices

abbrev pub labels : Mesh → List Sight → List (List (ℕ × ℤ))
labels m points = map (λ dim. mesh_label m dim points) (below 4)

-- what a rank has that holds these cells
unfoldable pub local_mesh : Mesh → List (List ℕ) → List ℕ → List (ℕ × Cell) → LocalMesh
local_mesh m dofs a cells =
    let points = chart m cells in
    record {
      diagram = diagram m cells;
      keys = map (λ (s : Sight). s.key) points;
      owners = map (λ s. owner m a (point_of s)) points;
      labels = labels m points;
      fields = fields m dofs points;
      at = coordinates_of m (vertices_among points);
    }

-- the distribution of a mesh over n ranks by an assignment, with k layers of overlap
unfoldable pub plain_dist : Mesh → List (List ℕ) → List ℕ → ℕ → ℕ → PlainDist
plain_dist m dofs a n k = record {
  cells = length m.cells;
  overlap = k;
  sections = length m.fields;
  points = point_forest m a (charts m a n k);
  locals = map (λ r. local_mesh m dofs a (held_cells m a r k)) (below n);
}

-- ---- before there are keys: cells and vertices, and the points that a rank sees by itself

-- What a rank is given: its cells and the vertices of these, both rising, with the owner and the coordinates of each
-- vertex; the marks on its points; and for each data section the row of each of its vertices or cells.
pub record ScatterPart : Type 0 where
  pub cells : List (ℕ × Cell)
  pub vertices : List ℕ
  pub owners : List ℕ
  pub at : List (List ℤ)
  pub marks : List Mark
  pub rows : List (List (Option (List ℤ)))

-- how many cells the whole mesh has, each data section's place and number of components, the dofs, and each rank's part
pub record PlainScatter : Type 0 where
  pub whole : ℕ
  pub sections : List (Place × ℕ)
  pub dofs : List (List ℕ)
  pub parts : List ScatterPart

-- what a data section is on: vertices or cells
abbrev pub section_numbers : Place → List (ℕ × Cell) → List ℕ → List ℕ
section_numbers Node cells vertices = vertices
section_numbers Element cells vertices = map (λ (c : ℕ × Cell). c.0) cells

-- what a rank is given that holds these cells
unfoldable pub scatter_part : Mesh → List ℕ → List (ℕ × Cell) → ScatterPart
scatter_part m a cells =
    let points = chart m cells in
    let vertices = vertices_among points in
    record {
      cells = cells;
      vertices = vertices;
      owners = map (λ s. owner m a (point_of s)) (filter (λ s. dim_of s.poly == 0) points);
      at = coordinates_of m vertices;
      marks = filter (λ k. list_any (shows (marked_point k)) points) m.marks;
      rows = map (λ (f : Section). map (row_values f) (section_numbers f.on cells vertices)) m.fields;
    }

-- the cells and vertices of a mesh, given to n ranks by an assignment
unfoldable pub plain_scatter : Mesh → List (List ℕ) → List ℕ → ℕ → PlainScatter
plain_scatter m dofs a n = record { whole = length m.cells; sections = map (λ (f : Section). (f.on, f.comps)) m.fields; dofs = dofs; parts = map (λ r. scatter_part m a (assigned m a r)) (below n) }

-- the points of one dimension that some cells see, by the least key under which these cells see them
abbrev pub own_stratum : List (ℕ × Cell) → ℕ → List Sight
own_stratum cells dim = firsts (filter (λ s. dim_of s.poly == dim) (sights cells))

-- the points of some cells, as these cells alone see them: cells, vertices, faces where the mesh is solid, edges
unfoldable pub own_chart : Mesh → List (ℕ × Cell) → List Sight
own_chart m cells =
    own_stratum cells m.dim ++ filter (λ s. list_any (λ (c : ℕ × Cell). contains c.1 (point_of s)) cells) (vertex_sights m) ++ (if m.dim == 3 then own_stratum cells 2 else []) ++ own_stratum cells 1

-- What a rank has once the ranks have met: its cells and vertices with coordinates; the vertex sets of its points; labels
-- by dimension, and the words of its points in each field.
pub record SharedPart : Type 0 where
  pub cells : List (ℕ × Cell)
  pub vertices : List ℕ
  pub at : List (List ℤ)
  pub sets : List (List ℕ)
  pub labels : List (List (ℕ × ℤ))
  pub fields : List (List (List ℕ))

-- of the whole mesh the number of cells and of data sections; the forest of shared points; and what each rank has
pub record PlainShared : Type 0 where
  pub whole : ℕ
  pub sections : ℕ
  pub forest : Forest
  pub parts : List SharedPart

-- what a rank has of its cells and of its points, which are these
unfoldable pub shared_part : Mesh → List (List ℕ) → List (ℕ × Cell) → List Sight → SharedPart
shared_part m dofs cells points = record {
  cells = cells;
  vertices = vertices_among points;
  at = coordinates_of m (vertices_among points);
  sets = map (λ s. (point_of s).vertices) points;
  labels = labels m points;
  fields = fields m dofs points;
}

-- the points that n ranks see by themselves under an assignment, and which of them are the same
unfoldable pub plain_shared : Mesh → List (List ℕ) → List ℕ → ℕ → PlainShared
plain_shared m dofs a n = record {
  whole = length m.cells;
  sections = length m.fields;
  forest = point_forest m a (map (λ r. own_chart m (assigned m a r)) (below n));
  parts = map (λ r. shared_part m dofs (assigned m a r) (own_chart m (assigned m a r))) (below n);
}

-- ---- standing for a mesh under an assignment

-- Only right meshes, counts and assignments are stood for. Without that one value could stand for two meshes whose further
-- course differs: two empty meshes of different dimension have one list of shared points, and different diagrams.

-- what ranks are given stands for this mesh, these dofs and this assignment to n ranks
pub record IsScatter (s : PlainScatter) (m : Mesh) (dofs : List (List ℕ)) (a : List ℕ) (n : ℕ) : Type 0 where
  pub mesh : IsRightMesh m
  pub counts : AreRightDofs dofs
  pub assignment : IsRightAssignment m n a
  pub value : s ≡ plain_scatter m dofs a n

-- so do the points that they see by themselves, and which of them are the same
pub record IsShared (s : PlainShared) (m : Mesh) (dofs : List (List ℕ)) (a : List ℕ) (n : ℕ) : Type 0 where
  pub mesh : IsRightMesh m
  pub counts : AreRightDofs dofs
  pub assignment : IsRightAssignment m n a
  pub value : s ≡ plain_shared m dofs a n

-- so does a distributed mesh, with k layers of overlap
pub record IsDist (d : PlainDist) (m : Mesh) (dofs : List (List ℕ)) (a : List ℕ) (n k : ℕ) : Type 0 where
  pub mesh : IsRightMesh m
  pub counts : AreRightDofs dofs
  pub assignment : IsRightAssignment m n a
  pub value : d ≡ plain_dist m dofs a n k
