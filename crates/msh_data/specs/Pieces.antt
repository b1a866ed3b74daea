-- The pieces of a data section, as it is read: its name, its real tags, its shape, its rows.
use Rattle.std.specs.Prelude.{ℕ, ◌-◌, nat_le, List, [], ◌∷◌, ◌++◌, ℤ}
use Rattle.input_defs.specs.scan_defs.Numbers.{uint_of, int_of}
use Rattle.input_defs.specs.declared.DataFault.{DataFault}
use Rattle.input_defs.specs.declared.DataFault.TheVariants.{BadCount, UnknownNumber}
use Rattle.input_defs.specs.Causes.{ok_where}
use Rattle.input_defs.specs.Bodies.{Reader, give, ◌>>=◌, many, tested, uint, int, fixed, quoted}
use Rattle.input_defs.specs.Sections.{has_number}
use Rattle.input_defs.specs.DataSections.{real, comps_on, rows_on}
use Rattle.input_laws.specs.reading_laws.Going.{passed, first_of, onto}
use Rattle.msh_data.specs.declared.head.Shape.{Shape}
use Rattle.msh_data.specs.declared.rows.Rows.{Rows}

-- the first of the string tags
unfoldable pub field_name : Reader DataFault (List ℕ)
field_name = do
  count ← uint
  first_of [] count quoted

-- the real tags, of which nothing is kept
unfoldable pub reals : Reader DataFault (Unit {0})
reals = do
  count ← uint
  passed (many count real)

-- at least three integer tags
abbrev pub int_count : Reader DataFault ℕ
int_count = tested uint_of (λ line n. ok_where (nat_le 3 n) n (BadCount line))

-- the components and the rows among the integer tags
unfoldable pub shape : Reader DataFault Shape
shape = do
  count ← int_count
  step ← int
  comps ← tested int_of comps_on
  rows ← tested int_of rows_on
  further ← passed (many (count - 3) int)
  give (record { comps = comps; rows = rows })

-- a number that is known
abbrev pub known_number : List ℕ → Reader DataFault ℕ
known_number known = tested uint_of (λ line n. ok_where (has_number known n) n (UnknownNumber line n))

-- the numbers of rows, and their values one row after the other
pub record Flat : Type 0 where
  pub numbers : List ℕ
  pub values : List ℤ

abbrev pub flat_of : Rows → Flat
flat_of rows = record { numbers = rows.numbers.items; values = rows.values.items }

-- one row more
unfoldable pub row_onto : List ℕ → ℕ → Flat → Reader DataFault Flat
row_onto known comps flat = do
  number ← known_number known
  values ← onto (λ _. fixed) flat.values comps
  give (record { numbers = flat.numbers ++ number ∷ []; values = values })
