-- A content written out as a mesh file, after the MSH format 2.2 of the Gmsh manual: each section with its count, and one
-- node, element, name or row on each line.
use Rattle.std.specs.Prelude.{◌≡◌, ℕ, ◌<◌, false, List, [], ◌∷◌, ◌++◌, length, map, flat_map, codes, decimal}
use Rattle.std.specs.Fmt.{signed_decimal}
use Rattle.std.specs.List.{AllByRecursion, list_any}
use Rattle.input_defs.specs.line_defs.Rows.{is_newline}
use Rattle.input_defs.specs.line_defs.Numbers.{fixed_text}
use Rattle.mesh_defs.specs.declared.Place.{Place}
use Rattle.mesh_defs.specs.declared.Place.TheVariants as place
use Rattle.mesh_defs.specs.Mesh.{Name, Row, Section}
use Rattle.input_defs.specs.Content.{Node, Element, Content}

-- ---- lines

-- words with a blank between two of them
abbrev pub spaced : List (List ℕ) → List ℕ
spaced [] = []
spaced (word ∷ words) = word ++ flat_map (λ next. 32 ∷ next) words

-- lines, each with an LF at its end
abbrev pub as_text : List (List ℕ) → List ℕ
as_text lines = flat_map (λ line. line ++ 10 ∷ []) lines

-- a section: its header line, its body, and its closing line
abbrev pub section_lines : List ℕ → List (List ℕ) → List (List ℕ)
section_lines name body = (36 ∷ name) ∷ body ++ (36 ∷ codes "End" ++ name) ∷ []

-- how many there are, and a line for each
abbrev pub counted : {A : Type 0} → (A → List ℕ) → List A → List (List ℕ)
counted line xs = decimal (length xs) ∷ map line xs

abbrev pub quote : List ℕ → List ℕ
quote text = 34 ∷ text ++ 34 ∷ []

-- ---- nodes, elements and names

abbrev pub name_line : Name → List ℕ
name_line name = spaced (decimal name.dim ∷ signed_decimal name.number ∷ quote name.text ∷ [])

abbrev pub node_line : Node → List ℕ
node_line node = spaced (decimal node.number ∷ map fixed_text node.at)

-- the physical tag is the only one
abbrev pub element_line : Element → List ℕ
element_line element = spaced (decimal element.number ∷ decimal element.kind ∷ decimal 1 ∷ signed_decimal element.physical ∷ map decimal element.nodes)

-- ---- data

abbrev pub row_line : Row → List ℕ
row_line row = spaced (decimal row.number ∷ map fixed_text row.values)

-- one string tag, no real tag, three integer tags
abbrev pub field_lines : Section → List (List ℕ)
field_lines field = codes "1" ∷ quote field.name ∷ codes "0" ∷ codes "3" ∷ codes "0" ∷ decimal field.comps ∷ counted row_line field.rows

abbrev pub data_name : Place → List ℕ
data_name place.Node = codes "NodeData"
data_name place.Element = codes "ElementData"

abbrev pub field_section : Section → List (List ℕ)
field_section field = section_lines (data_name field.on) (field_lines field)

-- ---- the file

unfoldable pub file_lines : Content → List (List ℕ)
file_lines content =
    section_lines (codes "MeshFormat") (codes "2.2 0 8" ∷ [])
    ++ (section_lines (codes "PhysicalNames") (counted name_line content.names)
    ++ (section_lines (codes "Nodes") (counted node_line content.nodes)
    ++ (section_lines (codes "Elements") (counted element_line content.elements)
    ++ flat_map field_section content.fields)))

unfoldable pub file_of : Content → List ℕ
file_of content = as_text (file_lines content)

-- ---- what can be written

-- a text on one line
abbrev pub IsOneLine : List ℕ → Type 0
IsOneLine text = list_any is_newline text ≡ false

-- the texts of names have no LF, and so many rows can be counted
pub record IsWritable (content : Content) : Type 0 where
  pub names : AllByRecursion (λ (name : Name). IsOneLine name.text) content.names
  pub field_names : AllByRecursion (λ (field : Section). IsOneLine field.name) content.fields
  pub row_counts : AllByRecursion (λ (field : Section). length field.rows < 2147483648) content.fields
