-- The last row of each number in a data section, told by tables.
use Rattle.std.specs.Prelude.{◌≡◌, ℕ, zero, suc, ◌<◌, ◌≤◌, ◌==◌, ℤ, List, [], ◌∷◌, length, get_or, slice_index, reverse, find, Option, Some, None, option_map}
use Rattle.mesh_defs.specs.declared.Place.{Place}
use Rattle.mesh_defs.specs.declared.Place.TheVariants.{Node, Element}
use Rattle.mesh_defs.specs.Mesh.{Mesh, Row, Section}
use Rattle.mesh_defs.specs.RightMesh.{count_on}
use Rattle.dist_seed.specs.declared.section_rows.tables.RowTable.{RowTable}

-- the values of the last of some rows with this number; none where there is no such row
unfoldable pub last_values : List Row → ℕ → Option (List ℤ)
last_values rows number = option_map (λ (r : Row). r.values) (find (λ (r : Row). r.number == number) (reverse rows))

-- the values of a row that is counted from 1; 0 is no row
abbrev pub values_by : List Row → ℕ → Option (List ℤ)
values_by rows zero = None
values_by rows (suc i) = Some (get_or rows i (record { number = 0; values = [] })).values

-- the table has the last row of each number, counted from 1
pub record HasLastRows (rows : List Row) (size : ℕ) (table : List ℕ) : Type 0 where
  pub many : length table ≡ size
  pub within : (n : ℕ) → n < size → slice_index table n ≤ length rows
  pub last : (n : ℕ) → n < size → values_by rows (slice_index table n) ≡ last_values rows n

-- these tables have the last rows of these data sections of a mesh
abbrev pub AreTablesOf : Mesh → List Section → List RowTable → Type 0
AreTablesOf m [] [] = Unit {0}
AreTablesOf m [] (table ∷ tables) = ⊥
AreTablesOf m (f ∷ fields) [] = ⊥
AreTablesOf m (f ∷ fields) (table ∷ tables) = HasLastRows f.rows (count_on m f.on) table.places.items × AreTablesOf m fields tables

-- the numbers by which a data section names cells or vertices
abbrev pub numbers_on : Place → List ℕ → List ℕ → List ℕ
numbers_on Node cells vertices = vertices
numbers_on Element cells vertices = cells
