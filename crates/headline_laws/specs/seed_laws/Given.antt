-- What a rank is given, by tests on its cells alone.
use Rattle.std.specs.Prelude.{ℕ, Bool, ◌==◌, List, length, map, filter}
use Rattle.std.specs.List.{list_any}
use Rattle.plain_lists.specs.Lists.{below}
use Rattle.mesh_defs.specs.Mesh.{Mesh, Cell, Mark, Section}
use Rattle.mesh_defs.specs.Points.{Point, point_of, vertex_sight, marked_point}
use Rattle.mesh_defs.specs.RightMesh.{in_some}
use Rattle.plex_defs.specs.Fields.{row_values}
use Rattle.rank_defs.specs.Ranks.{owner}
use Rattle.rank_defs.specs.Spread.{ScatterPart, section_numbers, coordinates_of}

-- some of these cells has the vertex
abbrev pub has_vertex : List (ℕ × Cell) → ℕ → Bool
has_vertex cells v = list_any (λ (c : ℕ × Cell). list_any (λ w. w == v) c.1.vertices) cells

-- of n vertices those that some of these cells has, rising
unfoldable pub vertices_of : ℕ → List (ℕ × Cell) → List ℕ
vertices_of n cells = filter (has_vertex cells) (below n)

-- a vertex as a point
abbrev pub vertex_point : ℕ → Point
vertex_point v = point_of (vertex_sight v)

-- the owner of each of these vertices
unfoldable pub owners_of : Mesh → List ℕ → List ℕ → List ℕ
owners_of m a vertices = map (λ v. owner m a (vertex_point v)) vertices

-- the marks on points that some of these cells contains
unfoldable pub marks_on_cells : Mesh → List (ℕ × Cell) → List Mark
marks_on_cells m cells = filter (λ k. in_some (marked_point k) cells) m.marks

-- what a rank is given that holds these cells
abbrev pub given : Mesh → List ℕ → List (ℕ × Cell) → ScatterPart
given m a cells = record {
  cells = cells;
  vertices = vertices_of (length m.at) cells;
  owners = owners_of m a (vertices_of (length m.at) cells);
  at = coordinates_of m (vertices_of (length m.at) cells);
  marks = marks_on_cells m cells;
  rows = map (λ (f : Section). map (row_values f) (section_numbers f.on cells (vertices_of (length m.at) cells))) m.fields;
}
