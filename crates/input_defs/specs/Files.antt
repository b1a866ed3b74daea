-- A whole mesh file: its content, or its first fault. A block is a header line with the tokens up to the next one.
use Rattle.std.specs.Prelude.{ℕ, Bool, true, false, not, ◌||◌, nat_le, if◌then◌else◌, List, [], ◌∷◌, ◌++◌, length, map, take, find, codes, Option, Some, None, option_map, is_some, is_none, unwrap_or, Result, Ok, Err}
use Rattle.mesh_defs.specs.declared.Place.{Place}
use Rattle.mesh_defs.specs.declared.Place.TheVariants as place
use Rattle.plain_lists.specs.Lists.{same_list}
use Rattle.mesh_defs.specs.Mesh.{Name, Section}
use Rattle.input_defs.specs.Content.{Node, Element, Content}
use Rattle.input_defs.specs.scan_defs.Lines.{line_number}
use Rattle.input_defs.specs.scan_defs.Items.{Item, Header, Word, text_of, items, body}
use Rattle.input_defs.specs.declared.What.TheVariants as what
use Rattle.input_defs.specs.declared.DataFault.{DataFault}
use Rattle.input_defs.specs.declared.DataFault.TheVariants as data_fault
use Rattle.input_defs.specs.declared.MshFault.{MshFault}
use Rattle.input_defs.specs.declared.MshFault.TheVariants.{NotMsh, Header as WrongHeader, BadNumber, BadCount, BadName, Unclosed, RepeatedSection, MissingSection, Components, UnknownNumber, OutOfRange, TooMany, NoMemory}
use Rattle.input_defs.specs.Causes.{◌>>=◌, map_ok, first_cause, unless}
use Rattle.input_defs.specs.Bodies.{Lexeme, lexeme_of, whole}
use Rattle.input_defs.specs.Sections.{faults_of, format, names, nodes, elements}
use Rattle.input_defs.specs.DataSections.{section_of}

pub record Block : Type 0 where
  pub name : List ℕ
  pub line : ℕ
  pub body : List Lexeme

-- the blocks of a file; tokens before the first header line say nothing
unfoldable pub blocks_of : List ℕ → List Item → List Block
blocks_of bytes [] = []
blocks_of bytes (Header name ∷ items) = record { name = text_of bytes name; line = name.line; body = map (lexeme_of bytes) (body items) } ∷ blocks_of bytes items
blocks_of bytes (Word token ∷ items) = blocks_of bytes items

-- ---- sections

pub data Known : Type 0 where
  Format : Known
  Names : Known
  Nodes : Known
  Elements : Known
  Data : Place → Known

abbrev pub known_names : List (List ℕ × Known)
known_names = (codes "MeshFormat", Format) ∷ (codes "PhysicalNames", Names) ∷ (codes "Nodes", Nodes) ∷ (codes "Elements", Elements)
    ∷ (codes "NodeData", Data place.Node) ∷ (codes "ElementData", Data place.Element) ∷ []

abbrev pub known : List ℕ → Option Known
known name = option_map (λ (row : List ℕ × Known). row.1) (find (λ row. same_list row.0 name) known_names)

-- the name on the closing line of a section
abbrev pub closing : List ℕ → List ℕ
closing name = codes "End" ++ name

abbrev pub closes : List ℕ → Block → Bool
closes name block = same_list block.name (closing name)

-- what was read up to here: each section that stood, and the data sections in file order
pub record Parts : Type 0 where
  pub format : Bool
  pub names : Option (List Name)
  pub nodes : Option (List Node)
  pub elements : Option (List Element)
  pub fields : List Section

abbrev pub nothing : Parts
nothing = record { format = false; names = None; nodes = None; elements = None; fields = [] }

-- ---- where a section may stand

-- why a section may not begin on a line, the causes in their order
abbrev pub causes : Parts → ℕ → Known → List (Bool × MshFault)
causes parts line Format = (parts.format, RepeatedSection line) ∷ []
causes parts line Names = (not parts.format, NotMsh line) ∷ (is_some parts.names, RepeatedSection line) ∷ []
causes parts line Nodes = (not parts.format, NotMsh line) ∷ (is_some parts.nodes, RepeatedSection line) ∷ []
causes parts line Elements = (not parts.format, NotMsh line) ∷ (is_none parts.nodes, MissingSection line true) ∷ (is_some parts.elements, RepeatedSection line) ∷ []
causes parts line (Data place.Node) = (not parts.format, NotMsh line) ∷ (is_none parts.nodes, MissingSection line true) ∷ (nat_le 16 (length parts.fields), TooMany line what.Fields) ∷ []
causes parts line (Data place.Element) = (not parts.format, NotMsh line) ∷ (is_none parts.elements, MissingSection line false) ∷ (nat_le 16 (length parts.fields), TooMany line what.Fields) ∷ []

unfoldable pub misplaced : Parts → ℕ → Known → Option MshFault
misplaced parts line k = first_cause (causes parts line k)

-- why a file may not end on this line
unfoldable pub unfinished : Parts → ℕ → Option MshFault
unfinished parts line = first_cause ((not parts.format, NotMsh line) ∷ (is_none parts.nodes, MissingSection line true) ∷ (is_none parts.elements, MissingSection line false) ∷ [])

-- ---- one section

-- a fault of a data section as one of the file, where this is the one that the body ends too early
abbrev pub of_data : {A : Type 0} → MshFault → Result A DataFault → Result A MshFault
of_data ended (Ok x) = Ok x
of_data ended (Err (data_fault.BadNumber line)) = Err (BadNumber line)
of_data ended (Err (data_fault.BadCount line)) = Err (BadCount line)
of_data ended (Err (data_fault.BadName line)) = Err (BadName line)
of_data ended (Err (data_fault.Components line got)) = Err (Components line got)
of_data ended (Err (data_fault.UnknownNumber line number)) = Err (UnknownNumber line number)
of_data ended (Err (data_fault.OutOfRange line)) = Err (OutOfRange line)
of_data ended (Err (data_fault.Ended line)) = Err ended
of_data ended (Err data_fault.NoMemory) = Err NoMemory

-- the numbers of the nodes, and of the elements
abbrev pub file_numbers : Parts → Place → List ℕ
file_numbers parts place.Node = map (λ (node : Node). node.number) (unwrap_or parts.nodes [])
file_numbers parts place.Element = map (λ (element : Element). element.number) (unwrap_or parts.elements [])

-- the parts with this section, whose body is these tokens and ends on this line
unfoldable pub with_section : ℕ → MshFault → Parts → Known → List Lexeme → Result Parts MshFault
with_section end ended parts Format body = map_ok (λ size. record parts { format = true }) (whole BadCount format (faults_of ended) body)
with_section end ended parts Names body = map_ok (λ names. record parts { names = Some names }) (whole BadCount names (faults_of ended) body)
with_section end ended parts Nodes body = map_ok (λ nodes. record parts { nodes = Some nodes }) (whole BadCount nodes (faults_of ended) body)
with_section end ended parts Elements body = map_ok (λ elements. record parts { elements = Some elements }) (whole BadCount (elements (file_numbers parts place.Node)) (faults_of ended) body)
with_section end ended parts (Data on) body = map_ok (λ field. record parts { fields = parts.fields ++ field ∷ [] }) (of_data ended (section_of on (file_numbers parts on) end body))

-- ---- the file

-- the line that ends a body before these blocks
abbrev pub ending_line : ℕ → List Block → ℕ
ending_line end [] = end
ending_line end (next ∷ blocks) = next.line

-- the fault of a body that ends too early there: a wrong count where the closing line is the right one
abbrev pub cut_short : ℕ → List ℕ → List Block → MshFault
cut_short end name [] = Unclosed end
cut_short end name (next ∷ blocks) = if closes name next then BadCount next.line else Unclosed next.line

-- What the next header line has to be: one that begins a section; the closing line of the section before it; or, after an
-- unknown section, anything up to its closing line.
pub data Expected : Type 0 where
  Opening : Expected
  Closing : List ℕ → Expected
  Skipping : List ℕ → Expected

abbrev pub is_wrong_header : List ℕ → Bool
is_wrong_header name = same_list name [] || same_list (take 3 name) (codes "End")

-- what is expected after a header line that begins a section, and what was read with that section
abbrev pub begun : ℕ → Parts → Block → List Block → Option Known → Result (Expected × Parts) MshFault
begun end parts block blocks (Some k) = do
  before ← unless (misplaced parts block.line k) parts
  with ← with_section (ending_line end blocks) (cut_short end block.name blocks) before k block.body
  Ok (Closing block.name, with)
begun end parts block blocks None = if is_wrong_header block.name then Err (WrongHeader block.line) else Ok (Skipping block.name, parts)

-- one header line with its body, and the blocks after it
unfoldable pub with_block : ℕ → Expected → Parts → Block → List Block → Result (Expected × Parts) MshFault
with_block end Opening parts block blocks = begun end parts block blocks (known block.name)
with_block end (Closing name) parts block blocks = if closes name block then Ok (Opening, parts) else Err (Unclosed block.line)
with_block end (Skipping name) parts block blocks = Ok (if closes name block then Opening else Skipping name, parts)

abbrev pub content_of : Parts → Content
content_of parts = record { nodes = unwrap_or parts.nodes []; elements = unwrap_or parts.elements []; names = unwrap_or parts.names []; fields = parts.fields }

-- where the file ends on this line
abbrev pub finished : ℕ → Expected → Parts → Result Content MshFault
finished end Opening parts = unless (unfinished parts end) (content_of parts)
finished end (Closing name) parts = Err (Unclosed end)
finished end (Skipping name) parts = Err (Unclosed end)

-- what blocks say after what was read
unfoldable pub said : ℕ → Expected → Parts → List Block → Result Content MshFault
said end expected parts [] = finished end expected parts
said end expected parts (block ∷ blocks) = with_block end expected parts block blocks >>= (λ next. said end next.0 next.1 blocks)

-- the content of a mesh file, or its first fault
unfoldable pub content : List ℕ → Result Content MshFault
content bytes = said (line_number bytes (length bytes)) Opening nothing (blocks_of bytes (items bytes))
