-- What a mesh has by place, and what one that is being built keeps.
use Rattle.std.specs.Prelude.{◌≡◌, ◌⊎◌, ℕ, ◌<◌, ◌≤◌, ◌^◌, false, ℤ, pos, List, [], length, map, get_or}
use Rattle.std.specs.List.{list_any, AllByRecursion}
use Rattle.plain_lists.specs.Lists.{same_set}
use Rattle.mesh_defs.specs.declared.Poly.TheVariants.{Vertex}
use Rattle.mesh_defs.specs.declared.Place.{Place}
use Rattle.mesh_defs.specs.Mesh.{Mesh, Cell, Mark, Row}
use Rattle.mesh_defs.specs.RightMesh.{IsFlatOrSolid, IsSoundCell, CellsDiffer, IsOnPoint, IsRightSection, IsRightMesh, count_on}

-- ---- by place

-- cell c; past the last one there is no cell, and this is one without vertices
abbrev pub cell_at : List Cell → ℕ → Cell
cell_at cells c = get_or cells c (record { poly = Vertex; vertices = [] })

-- mark i; past the last one there is no mark, and this is one without vertices
abbrev pub mark_at : List Mark → ℕ → Mark
mark_at marks i = get_or marks i (record { dim = 0; vertices = []; value = pos 0 })

-- ---- conditions

-- no cell has this set of vertices
abbrev pub IsNewSet : Mesh → List ℕ → Type 0
IsNewSet m vertices = list_any (same_set vertices) (map (λ (cell : Cell). cell.vertices) m.cells) ≡ false

-- 1, 3 or 9 components: a scalar, a vector or a tensor
abbrev pub IsComponents : ℕ → Type 0
IsComponents n = (n ≡ 1) ⊎ ((n ≡ 3) ⊎ (n ≡ 9))

-- each row is for a vertex or a cell that is there
abbrev pub AreKnownRows : Mesh → Place → List Row → Type 0
AreKnownRows m on rows = AllByRecursion (λ (row : Row). row.number < count_on m on) rows

-- ---- the mesh so far

-- all that a right mesh has, but that there is a cell and each vertex stands in one
pub record IsRightSoFar (m : Mesh) : Type 0 where
  pub dim : IsFlatOrSolid m
  pub cells : AllByRecursion (IsSoundCell m) m.cells
  pub few_cells : length m.cells ≤ 250000
  pub differ : CellsDiffer m
  pub few_vertices : length m.at < 2 ^ 32
  pub three_coordinates : AllByRecursion (λ (at : List ℤ). length at ≡ 3) m.at
  pub fields : AllByRecursion (IsRightSection m) m.fields
  pub marks : AllByRecursion (IsOnPoint m) m.marks

-- a right mesh whose vertices 32 bits can name
pub record IsFinished (m : Mesh) : Type 0 where
  pub right : IsRightMesh m
  pub few_vertices : length m.at < 2 ^ 32
