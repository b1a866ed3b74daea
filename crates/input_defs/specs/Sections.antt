-- The bodies of the sections MeshFormat, PhysicalNames, Nodes and Elements, after the MSH format 2.2 of the Gmsh manual.
use Rattle.std.specs.Prelude.{ℕ, zero, suc, Bool, false, not, ◌==◌, nat_le, if◌then◌else◌, List, [], ◌∷◌, get_or, find, ℤ, pos, negsuc, Option, option_map, is_some, unwrap_or, Err}
use Rattle.std.specs.List.{list_any}
use Rattle.mesh_defs.specs.declared.Poly.{Poly}
use Rattle.mesh_defs.specs.declared.Poly.TheVariants.{Vertex, Segment, Triangle, Quad, Tet, Hex}
use Rattle.mesh_defs.specs.Tables.{corner_count}
use Rattle.mesh_defs.specs.Mesh.{Name}
use Rattle.input_defs.specs.Content.{Node, Element}
use Rattle.input_defs.specs.declared.scan_defs.NumberFault.{NumberFault}
use Rattle.input_defs.specs.declared.scan_defs.NumberFault.TheVariants as numbers
use Rattle.input_defs.specs.scan_defs.Numbers.{uint_of, fixed_of}
use Rattle.input_defs.specs.declared.What.{What}
use Rattle.input_defs.specs.declared.What.TheVariants as what
use Rattle.input_defs.specs.declared.MshFault.{MshFault}
use Rattle.input_defs.specs.declared.MshFault.TheVariants.{Version, Binary, BadNumber, BadName, RepeatedNodeNumber, ElementType, UnknownNode, RepeatedNode, OutOfRange, TooMany}
use Rattle.input_defs.specs.Causes.{ok_where}
use Rattle.input_defs.specs.Bodies.{Faults, Reader, give, ◌>>=◌, many, tested, uint, int, fixed, quoted}

abbrev pub section_number_fault : NumberFault → ℕ → MshFault
section_number_fault numbers.NotNumber line = BadNumber line
section_number_fault numbers.OutOfRange line = OutOfRange line

-- the faults of every body, where this is the one that it ends too early
abbrev pub faults_of : MshFault → Faults MshFault
faults_of ended = record { number = section_number_fault; name = BadName; ended = ended }

abbrev pub has_number : List ℕ → ℕ → Bool
has_number numbers n = list_any (λ m. m == n) numbers

-- how many there are, up to a limit
abbrev pub count : ℕ → What → Reader MshFault ℕ
count limit what = tested uint_of (λ line n. ok_where (nat_le n limit) n (TooMany line what))

-- ---- MeshFormat: the version 2.2, a 0 for text, and the size of a number

abbrev pub is_version : ℤ → Bool
is_version (pos n) = n == 22000000000
is_version (negsuc n) = false

unfoldable pub format : Reader MshFault ℕ
format = do
  version ← tested fixed_of (λ line v. ok_where (is_version v) v (Version line))
  kind ← tested uint_of (λ line n. ok_where (n == 0) n (Binary line))
  uint

-- ---- PhysicalNames: a dimension, a number and a text each

unfoldable pub name : Reader MshFault Name
name = do
  dim ← uint
  number ← int
  text ← quoted
  give (record { dim = dim; number = number; text = text })

unfoldable pub names : Reader MshFault (List Name)
names = do
  n ← count 1024 what.Names
  many n name

-- ---- Nodes: a number and three coordinates each

-- the number of a node, which is not 0 and none of the earlier ones
abbrev pub fresh_number : List ℕ → Reader MshFault ℕ
fresh_number earlier = tested uint_of (λ line n. if n == 0 then Err (OutOfRange line) else ok_where (not (has_number earlier n)) n (RepeatedNodeNumber line n))

unfoldable pub node : List ℕ → Reader MshFault Node
node earlier = do
  number ← fresh_number earlier
  x ← fixed
  y ← fixed
  z ← fixed
  give (record { number = number; at = x ∷ y ∷ z ∷ [] })

-- n nodes after those of the earlier numbers
unfoldable pub nodes_after : List ℕ → ℕ → Reader MshFault (List Node)
nodes_after earlier zero = give []
nodes_after earlier (suc n) = do
  first ← node earlier
  others ← nodes_after (first.number ∷ earlier) n
  give (first ∷ others)

unfoldable pub nodes : Reader MshFault (List Node)
nodes = do
  n ← count 500000 what.Nodes
  nodes_after [] n

-- ---- Elements: a number, a type, tags and the numbers of nodes each

-- the types that are read; their nodes are in the order of the polytope's corners
abbrev pub types : List (ℕ × Poly)
types = (1, Segment) ∷ (2, Triangle) ∷ (3, Quad) ∷ (4, Tet) ∷ (5, Hex) ∷ (15, Vertex) ∷ []

abbrev pub poly_of_type : ℕ → Option Poly
poly_of_type kind = option_map (λ (row : ℕ × Poly). row.1) (find (λ row. row.0 == kind) types)

abbrev pub corners_of_type : ℕ → ℕ
corners_of_type kind = unwrap_or (option_map corner_count (poly_of_type kind)) 0

-- the number of a node of the file, which the element does not have yet
abbrev pub corner : List ℕ → List ℕ → Reader MshFault ℕ
corner known earlier = tested uint_of (λ line n. if has_number known n then ok_where (not (has_number earlier n)) n (RepeatedNode line n) else Err (UnknownNode line n))

abbrev pub corners_after : List ℕ → List ℕ → ℕ → Reader MshFault (List ℕ)
corners_after known earlier zero = give []
corners_after known earlier (suc n) = do
  first ← corner known earlier
  others ← corners_after known (first ∷ earlier) n
  give (first ∷ others)

-- an element on nodes of these numbers; its physical tag is the first one, or 0
unfoldable pub element : List ℕ → Reader MshFault Element
element known = do
  number ← uint
  kind ← tested uint_of (λ line n. ok_where (is_some (poly_of_type n)) n (ElementType line n))
  tag_count ← uint
  tags ← many tag_count int
  corners ← corners_after known [] (corners_of_type kind)
  give (record { number = number; kind = kind; physical = get_or tags 0 (pos 0); nodes = corners })

unfoldable pub elements : List ℕ → Reader MshFault (List Element)
elements known = do
  n ← count 1000000 what.Elements
  many n (element known)
