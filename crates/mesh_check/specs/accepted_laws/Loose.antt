-- Elements on no point of the mesh: the loose ones, and repeats of them.
use Rattle.std.specs.Prelude.{◌≡◌, Bool, true, ◌==◌, List, filter}
use Rattle.std.specs.List.{AllByRecursion}
use Rattle.mesh_defs.specs.declared.Place.{Place}
use Rattle.mesh_defs.specs.declared.Place.TheVariants as place
use Rattle.mesh_defs.specs.Mesh.{Row}
use Rattle.input_defs.specs.Content.{Element, Content}
use Rattle.input_defs.specs.Meshes.{vertex_nodes, cells_of, point_of_element, is_point_of}

-- the element is on a point of the mesh
abbrev pub is_on_point : Content → Element → Bool
is_on_point content element = is_point_of (cells_of content) (point_of_element (vertex_nodes content) element)

-- the content without the elements on no point
abbrev pub without_loose : Content → Content
without_loose content = record content { elements = filter (is_on_point content) content.elements }

-- each element that has the number of one of these rows is on a point, where the rows are of elements
abbrev pub NamesOnPoints : Content → Place → List Row → Type 0
NamesOnPoints content place.Node rows = Unit {0}
NamesOnPoints content place.Element rows = AllByRecursion (λ (row : Row). AllByRecursion (λ (e : Element). (e.number == row.number) ≡ true → is_on_point content e ≡ true) content.elements) rows
