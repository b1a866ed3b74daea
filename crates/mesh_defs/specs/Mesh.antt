-- A mesh as plain lists. Vertices are named by their positions from 0, cells by their places.
use Rattle.std.specs.Prelude.{ℕ, ℤ, List}
use Rattle.std.specs.List.{enumerate_from}
use Rattle.mesh_defs.specs.declared.Poly.{Poly}
use Rattle.mesh_defs.specs.declared.Place.{Place}

-- a cell: its polytope, and its vertices in the order of the polytope's corners
pub record Cell : Type 0 where
  pub poly : Poly
  pub vertices : List ℕ

-- a label value on the point of this dimension on these vertices
pub record Mark : Type 0 where
  pub dim : ℕ
  pub vertices : List ℕ
  pub value : ℤ

-- a physical name, as the Gmsh manual has it
pub record Name : Type 0 where
  pub dim : ℕ
  pub number : ℤ
  pub text : List ℕ

-- the values of one node or element
pub record Row : Type 0 where
  pub number : ℕ
  pub values : List ℤ

-- a data section; values are whole multiples of 10^-10
pub record Section : Type 0 where
  pub on : Place
  pub name : List ℕ
  pub comps : ℕ
  pub rows : List Row

-- Coordinates are whole multiples of 10^-10, three for each vertex. The counts are of what the file had beside the
-- mesh: nodes in no cell, elements on no point, elements merged with earlier ones.
pub record Mesh : Type 0 where
  pub dim : ℕ
  pub at : List (List ℤ)
  pub cells : List Cell
  pub marks : List Mark
  pub names : List Name
  pub fields : List Section
  pub unused : ℕ
  pub loose : ℕ
  pub merged : ℕ

-- the cells, each with its place
abbrev pub placed_cells : Mesh → List (ℕ × Cell)
placed_cells m = enumerate_from 0 m.cells
