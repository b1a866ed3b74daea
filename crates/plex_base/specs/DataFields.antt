-- A data section as it is kept: its name, and the rows of its values.
use Rattle.std.specs.Prelude.{ℕ, ℤ, List}
use Rattle.mesh_defs.specs.declared.Place.{Place}
use Rattle.mesh_defs.specs.Mesh.{Row, Section}
use Rattle.plex_base.specs.FlatRows.{with_rows}

-- what a data section says, whatever its values belong to
pub record FieldRows : Type 0 where
  pub name : List ℕ
  pub comps : ℕ
  pub rows : List Row

-- the rows of numbers with as many values each, which lie one after the other
abbrev pub rows_of_values : ℕ → List ℕ → List ℤ → List Row
rows_of_values comps = with_rows (λ number. comps) (λ number values. record { number = number; values = values })

-- the same as a section of a mesh
abbrev pub section_on : Place → FieldRows → Section
section_on on field = record { on = on; name = field.name; comps = field.comps; rows = field.rows }
