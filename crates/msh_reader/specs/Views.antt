-- What is kept of a file, as its definition has it.
use Rattle.std.specs.Prelude.{◌≡◌, ℕ, ◌+◌, List, [], ◌∷◌, map, length, sum_by, ℤ, pos}
use Rattle.input_defs.specs.declared.MshFault.{MshFault}
use Rattle.input_defs.specs.Bodies.{Reader, ◌>>=◌, uint, int}
use Rattle.input_laws.specs.reading_laws.Going.{first_of}
use Rattle.mesh_defs.specs.Mesh.{Name, Section}
use Rattle.input_defs.specs.Content.{Node, Element, Content}
use Rattle.input_defs.specs.Sections.{corners_of_type}
use Rattle.plex_base.specs.FlatRows.{with_rows}
use Rattle.plex_base.specs.DataFields.{section_on}
use Rattle.msh_reader.specs.declared.text.FileNode.{FileNode}
use Rattle.msh_reader.specs.declared.element_list.FileElement.{FileElement}
use Rattle.msh_reader.specs.declared.text.FileName.{FileName}
use Rattle.msh_reader.specs.declared.text.FileField.{FileField}

abbrev pub node_view : FileNode → Node
node_view n = record { number = n.number; at = n.at }

abbrev pub node_views : List FileNode → List Node
node_views nodes = map node_view nodes

abbrev pub node_numbers : List FileNode → List ℕ
node_numbers nodes = map (λ (n : Node). n.number) (node_views nodes)

abbrev pub name_view : FileName → Name
name_view n = record { dim = n.dim; number = n.number; text = n.text.items }

abbrev pub name_views : List FileName → List Name
name_views names = map name_view names

abbrev pub field_view : FileField → Section
field_view f = section_on f.on f.field

abbrev pub field_views : List FileField → List Section
field_views fields = map field_view fields

-- all that is kept
abbrev pub text_content : List FileNode → List Element → List FileName → List FileField → Content
text_content nodes elements names fields = record { nodes = node_views nodes; elements = elements; names = name_views names; fields = field_views fields }

-- ---- elements, whose nodes lie one after the other

abbrev pub width : FileElement → ℕ
width e = corners_of_type e.kind

abbrev pub element_view : FileElement → List ℕ → Element
element_view e nodes = record { number = e.number; kind = e.kind; physical = e.physical; nodes = nodes }

abbrev pub element_views : List FileElement → List ℕ → List Element
element_views = with_rows width element_view

abbrev pub element_numbers : List Element → List ℕ
element_numbers elements = map (λ (e : Element). e.number) elements

-- the nodes of these elements begin there, one element after the other
abbrev pub LieInOrder : ℕ → List FileElement → Type 0
LieInOrder start [] = Unit {0}
LieInOrder start (e ∷ es) = (e.start ≡ start) × LieInOrder (start + width e) es

-- the nodes of these elements are this list, one element after the other
pub record AreLaidOut (elements : List FileElement) (corners : List ℕ) : Type 0 where
  pub order : LieInOrder 0 elements
  pub sum : length corners ≡ sum_by width elements

-- the nodes of an element are what was put after others
pub record LiesAfter (e : FileElement) (old new : List ℕ) : Type 0 where
  pub start : e.start ≡ length old
  pub count : length new ≡ length old + width e

-- the physical tag: the first of the tags, or 0
unfoldable pub physical : Reader MshFault ℤ
physical = uint >>= (λ count. first_of (pos 0) count int)
