-- Right contents: what the content of every right mesh file has. Each condition has a name of its own, since most laws need
-- only one or two of them.
use Rattle.std.specs.Prelude.{◌≡◌, ◌⊎◌, ℕ, ◌-◌, ◌*◌, ◌^◌, ◌<◌, ◌≤◌, true, List, length, map, nat_eq, ℤ, pos, negsuc, nat_abs, ◌≤ℤ◌, is_some}
use Rattle.std.specs.List.{AllByRecursion, IsDistinct}
use Rattle.mesh_defs.specs.declared.Place.{Place}
use Rattle.mesh_defs.specs.declared.Place.TheVariants.{Node as OnNodes, Element as OnElements}
use Rattle.mesh_defs.specs.Mesh.{Name, Row, Section}
use Rattle.input_defs.specs.Content.{Node, Element, Content}
use Rattle.input_defs.specs.Sections.{has_number, poly_of_type, corners_of_type}

-- ---- numbers

-- an unsigned number of 32 bits
abbrev pub IsUnsigned : ℕ → Type 0
IsUnsigned n = n < 2 ^ 32

-- a signed number of 32 bits
abbrev pub IsSigned : ℤ → Type 0
IsSigned z = (negsuc (2 ^ 31 - 1) ≤ℤ z) × (z ≤ℤ pos (2 ^ 31 - 1))

-- a fixed-point value in range: at most 900,000,000, in 10^-10
abbrev pub IsFixed : ℤ → Type 0
IsFixed value = nat_abs value ≤ 9 * 10 ^ 18

-- no number stands twice
abbrev pub NumbersDiffer : List ℕ → Type 0
NumbersDiffer numbers = IsDistinct nat_eq numbers

-- ---- nodes, elements and names

-- a number of at least 1, and three coordinates
pub record IsRightNode (node : Node) : Type 0 where
  pub some_number : 1 ≤ node.number
  pub number : IsUnsigned node.number
  pub three : length node.at ≡ 3
  pub in_range : AllByRecursion IsFixed node.at

abbrev pub node_numbers : Content → List ℕ
node_numbers content = map (λ (node : Node). node.number) content.nodes

abbrev pub element_numbers : Content → List ℕ
element_numbers content = map (λ (element : Element). element.number) content.elements

-- one of these numbers
abbrev pub IsKnown : List ℕ → ℕ → Type 0
IsKnown numbers n = has_number numbers n ≡ true

-- a type that is read, with as many nodes as it has corners, which are known and differ
pub record IsRightElement (known : List ℕ) (element : Element) : Type 0 where
  pub number : IsUnsigned element.number
  pub kind : is_some (poly_of_type element.kind) ≡ true
  pub physical : IsSigned element.physical
  pub corners : length element.nodes ≡ corners_of_type element.kind
  pub nodes_known : AllByRecursion (IsKnown known) element.nodes
  pub nodes_differ : NumbersDiffer element.nodes

pub record IsRightName (name : Name) : Type 0 where
  pub dim : IsUnsigned name.dim
  pub number : IsSigned name.number

-- ---- data

-- the numbers of what has data
abbrev pub numbers_on : Content → Place → List ℕ
numbers_on content OnNodes = node_numbers content
numbers_on content OnElements = element_numbers content

-- a known number with a value for each component
pub record IsRightDataRow (known : List ℕ) (comps : ℕ) (row : Row) : Type 0 where
  pub number : IsKnown known row.number
  pub values : length row.values ≡ comps
  pub in_range : AllByRecursion IsFixed row.values

-- 1, 3 or 9 components
abbrev pub IsComponents : ℕ → Type 0
IsComponents comps = (comps ≡ 1) ⊎ ((comps ≡ 3) ⊎ (comps ≡ 9))

pub record IsRightField (content : Content) (field : Section) : Type 0 where
  pub comps : IsComponents field.comps
  pub rows : AllByRecursion (IsRightDataRow (numbers_on content field.on) field.comps) field.rows

-- ---- the whole

-- what there is at most
pub record IsWithinLimits (content : Content) : Type 0 where
  pub nodes : length content.nodes ≤ 500000
  pub elements : length content.elements ≤ 1000000
  pub names : length content.names ≤ 1024
  pub fields : length content.fields ≤ 16

-- Nodes whose numbers differ, elements on them, names, and data of the nodes and elements.
pub record IsRight (content : Content) : Type 0 where
  pub nodes : AllByRecursion IsRightNode content.nodes
  pub numbers_differ : NumbersDiffer (node_numbers content)
  pub elements : AllByRecursion (IsRightElement (node_numbers content)) content.elements
  pub names : AllByRecursion IsRightName content.names
  pub fields : AllByRecursion (IsRightField content) content.fields
  pub limits : IsWithinLimits content
