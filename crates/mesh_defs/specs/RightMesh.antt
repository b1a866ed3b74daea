-- Right meshes: what every mesh is that comes from a file or is made. Each condition has a name of its own, since most laws
-- need only one or two of them.
use Rattle.std.specs.Prelude.{◌≡◌, ◌≢◌, ◌⊎◌, ℕ, ◌<◌, ◌≤◌, Bool, true, ◌==◌, ℤ, List, Contains, length, map, slice_index}
use Rattle.std.specs.List.{list_any, AllByRecursion}
use Rattle.plain_lists.specs.Lists.{differ_as_sets}
use Rattle.mesh_defs.specs.declared.Place.{Place}
use Rattle.mesh_defs.specs.declared.Place.TheVariants.{Node, Element}
use Rattle.mesh_defs.specs.Tables.{dim_of, corner_count}
use Rattle.mesh_defs.specs.Mesh.{Mesh, Cell, Mark, Row, Section, placed_cells}
use Rattle.mesh_defs.specs.Points.{Point, contains, marked_point}

-- ---- cells and vertices

-- each vertex stands in some cell
abbrev pub UsesVertices : Mesh → Type 0
UsesVertices m = (v : ℕ) → v < length m.at → list_any (λ (cell : Cell). list_any (λ w. w == v) cell.vertices) m.cells ≡ true

-- some of these cells contains the point
abbrev pub in_some : Point → List (ℕ × Cell) → Bool
in_some p cells = list_any (λ (c : ℕ × Cell). contains c.1 p) cells

-- cells of dimension 2, or of dimension 3
abbrev pub IsFlatOrSolid : Mesh → Type 0
IsFlatOrSolid m = (m.dim ≡ 2) ⊎ (m.dim ≡ 3)

-- a cell of the mesh's dimension on different vertices of the mesh, as many as its polytope has corners
pub record IsSoundCell (m : Mesh) (cell : Cell) : Type 0 where
  pub dim : dim_of cell.poly ≡ m.dim
  pub corners : length cell.vertices ≡ corner_count cell.poly
  pub in_range : AllByRecursion (λ v. v < length m.at) cell.vertices
  pub different : (i j : ℕ) → i < j → j < length cell.vertices → slice_index cell.vertices i ≢ slice_index cell.vertices j

-- a flat or a solid mesh of such cells, all of whose vertices are in use
pub record IsSoundMesh (m : Mesh) : Type 0 where
  pub dim : IsFlatOrSolid m
  pub cells : AllByRecursion (IsSoundCell m) m.cells
  pub used : UsesVertices m

-- no two cells have the same vertices
abbrev pub CellsDiffer : Mesh → Type 0
CellsDiffer m = differ_as_sets (map (λ (cell : Cell). cell.vertices) m.cells) ≡ true

-- each of these is a cell of the mesh, with its place
abbrev pub AreCells : Mesh → List (ℕ × Cell) → Type 0
AreCells m cells = AllByRecursion (Contains (placed_cells m)) cells

-- ---- marks and data

-- the mark is on a point of the mesh
abbrev pub IsOnPoint : Mesh → Mark → Type 0
IsOnPoint m mark = in_some (marked_point mark) (placed_cells m) ≡ true

-- how many vertices or cells there are to have data
abbrev pub count_on : Mesh → Place → ℕ
count_on m Node = length m.at
count_on m Element = length m.cells

-- a row for a vertex or a cell of the mesh, with a value for each component
pub record IsRightRow (m : Mesh) (f : Section) (row : Row) : Type 0 where
  pub number : row.number < count_on m f.on
  pub values : length row.values ≡ f.comps

-- rows of at least one component
pub record IsRightSection (m : Mesh) (f : Section) : Type 0 where
  pub some_component : 1 ≤ f.comps
  pub rows : AllByRecursion (IsRightRow m f) f.rows

-- ---- the whole

-- A sound mesh of 1 to 250,000 cells on different sets of vertices, with three coordinates for each vertex, right data, and
-- marks on its points.
pub record IsRightMesh (m : Mesh) : Type 0 where
  pub sound : IsSoundMesh m
  pub some_cell : 1 ≤ length m.cells
  pub few_cells : length m.cells ≤ 250000
  pub differ : CellsDiffer m
  pub three_coordinates : AllByRecursion (λ (at : List ℤ). length at ≡ 3) m.at
  pub fields : AllByRecursion (IsRightSection m) m.fields
  pub marks : AllByRecursion (IsOnPoint m) m.marks
