-- The mesh that the content of a right file stands for, or why it stands for none.
use Rattle.std.specs.Prelude.{ℕ, ◌-◌, max, Bool, not, ◌&&◌, ◌==◌, nat_lt, if◌then◌else◌, List, [], ◌∷◌, length, map, filter, filter_map, find, fold, position, nat_abs, Option, option_map, option_and_then, is_none, unwrap_or, Result, Err}
use Rattle.std.specs.List.{list_any, position_or_len}
use Rattle.mesh_defs.specs.declared.Poly.{Poly}
use Rattle.mesh_defs.specs.declared.Poly.TheVariants.{Vertex}
use Rattle.mesh_defs.specs.declared.Place.{Place}
use Rattle.mesh_defs.specs.declared.Place.TheVariants as place
use Rattle.plain_lists.specs.Lists.{same_set}
use Rattle.mesh_defs.specs.Tables.{dim_of}
use Rattle.mesh_defs.specs.Orientation.{relative}
use Rattle.mesh_defs.specs.Mesh.{Mesh, Cell, Mark, Row, Section}
use Rattle.mesh_defs.specs.Points.{Point, point_on, contains}
use Rattle.input_defs.specs.Content.{Node, Element, Content}
use Rattle.input_defs.specs.declared.MeshFault.{MeshFault}
use Rattle.input_defs.specs.declared.MeshFault.TheVariants.{NoCells, TooManyCells, CellTwist}
use Rattle.input_defs.specs.Causes.{unless}
use Rattle.input_defs.specs.Sections.{poly_of_type, has_number}

-- ---- elements

-- the polytope of an element; every type that is read has one
abbrev pub poly : Element → Poly
poly element = unwrap_or (poly_of_type element.kind) Vertex

abbrev pub dim : Element → ℕ
dim element = dim_of (poly element)

-- two elements have the same nodes; the same dimension and the same nodes
abbrev pub same_nodes : Element → Element → Bool
same_nodes a b = same_set a.nodes b.nodes

abbrev pub same_place : Element → Element → Bool
same_place a b = (dim a == dim b) && same_nodes a b

-- the elements that are not merged: neither these earlier ones nor an earlier one of the list have their place
abbrev pub kept_after : List Element → List Element → List Element
kept_after earlier [] = []
kept_after earlier (e ∷ es) = if list_any (same_place e) earlier then kept_after earlier es else e ∷ kept_after (e ∷ earlier) es

unfoldable pub kept : Content → List Element
kept content = kept_after [] content.elements

-- the greatest dimension of an element, or 0: the dimension of the mesh
unfoldable pub greatest_dim : Content → ℕ
greatest_dim content = fold max 0 (map dim content.elements)

abbrev pub is_top : Content → Element → Bool
is_top content element = dim element == greatest_dim content

-- ---- vertices and cells

-- the vertices: the nodes that some element of the mesh's dimension has, in file order
unfoldable pub vertex_nodes : Content → List Node
vertex_nodes content = filter (λ (node : Node). list_any (λ e. is_top content e && has_number e.nodes node.number) content.elements) content.nodes

-- the position of a node among the vertices, past the last one for another node
abbrev pub vertex_of : List Node → ℕ → ℕ
vertex_of vertices number = position_or_len (λ (node : Node). node.number == number) vertices

-- the elements that become cells: those of the mesh's dimension that are not merged
unfoldable pub cell_elements : Content → List Element
cell_elements content = filter (is_top content) (kept content)

abbrev pub cell_of : List Node → Element → Cell
cell_of vertices element = record { poly = poly element; vertices = map (vertex_of vertices) element.nodes }

unfoldable pub cells_of : Content → List Cell
cells_of content = map (cell_of (vertex_nodes content)) (cell_elements content)

-- ---- labels

-- the point of an element, if it is one
abbrev pub point_of_element : List Node → Element → Point
point_of_element vertices element = point_on (poly element) (map (vertex_of vertices) element.nodes)

abbrev pub is_point_of : List Cell → Point → Bool
is_point_of cells p = list_any (λ cell. contains cell p) cells

-- the label value of an element, merged or not, whose physical tag is not 0, on its point
abbrev pub is_labelled : Element → Bool
is_labelled element = not (nat_abs element.physical == 0)

abbrev pub mark_of : List Node → Element → Mark
mark_of vertices element = record { dim = dim element; vertices = map (vertex_of vertices) element.nodes; value = element.physical }

unfoldable pub marks_of : Content → List Mark
marks_of content = map (mark_of (vertex_nodes content)) (filter (λ e. is_labelled e && is_point_of (cells_of content) (point_of_element (vertex_nodes content) e)) content.elements)

-- the elements that are not merged and are on no point
unfoldable pub loose_elements : Content → List Element
loose_elements content = filter (λ e. not (is_point_of (cells_of content) (point_of_element (vertex_nodes content) e))) (kept content)

-- ---- data

-- the vertex that a node number names, and the cell on the nodes of the first element of a number
abbrev pub place_named : Content → Place → ℕ → Option ℕ
place_named content place.Node number = position (λ (node : Node). node.number == number) (vertex_nodes content)
place_named content place.Element number = option_and_then (λ e. position (same_nodes e) (cell_elements content)) (find (λ (e : Element). e.number == number) content.elements)

-- a row for its vertex or cell; other rows are dropped
abbrev pub row_of : Content → Place → Row → Option Row
row_of content on row = option_map (λ place. record row { number = place }) (place_named content on row.number)

unfoldable pub section_on : Content → Section → Section
section_on content s = record s { rows = filter_map (row_of content s.on) s.rows }

-- ---- the mesh

unfoldable pub mesh_of : Content → Mesh
mesh_of content = record {
  dim = greatest_dim content;
  at = map (λ (node : Node). node.at) (vertex_nodes content);
  cells = cells_of content;
  marks = marks_of content;
  names = content.names;
  fields = map (section_on content) content.fields;
  unused = length content.nodes - length (vertex_nodes content);
  loose = length (loose_elements content);
  merged = length content.elements - length (kept content);
}

-- the first element at the place of this one
abbrev pub first_at : Content → Element → Element
first_at content element = unwrap_or (find (same_place element) content.elements) element

-- a cell sees its first element under no orientation
abbrev pub is_twisted : Content → Element → Bool
is_twisted content element = is_top content element && is_none (relative (poly element) (first_at content element).nodes element.nodes)

unfoldable pub twist : Content → Option MeshFault
twist content = option_map (λ (e : Element). CellTwist e.number (first_at content e).number) (find (is_twisted content) content.elements)

-- the mesh of a content, or the first cause why it has none
unfoldable pub accepted : Content → Result Mesh MeshFault
accepted content =
    if nat_lt (greatest_dim content) 2 then Err (NoCells (greatest_dim content))
    else if nat_lt 250000 (length (cell_elements content)) then Err TooManyCells
    else unless (twist content) (mesh_of content)
