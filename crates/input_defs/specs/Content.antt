-- What a mesh file says: its nodes, elements, names and data in file order, as the Gmsh manual has them.
use Rattle.std.specs.Prelude.{ℕ, ℤ, List}
use Rattle.mesh_defs.specs.Mesh.{Name, Section}

-- a node: its number in the file, and its coordinates in 10^-10
pub record Node : Type 0 where
  pub number : ℕ
  pub at : List ℤ

-- an element: its number and type in the file, its physical tag, and the numbers of its nodes
pub record Element : Type 0 where
  pub number : ℕ
  pub kind : ℕ
  pub physical : ℤ
  pub nodes : List ℕ

pub record Content : Type 0 where
  pub nodes : List Node
  pub elements : List Element
  pub names : List Name
  pub fields : List Section
