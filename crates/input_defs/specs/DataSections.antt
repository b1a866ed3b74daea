-- The body of a section NodeData or ElementData, after the MSH format 2.2 of the Gmsh manual.
use Rattle.std.specs.Prelude.{ℕ, ◌-◌, ◌||◌, ◌==◌, nat_le, List, [], get_or, ℤ, pos, negsuc, ok_or, Result, Ok, Err}
use Rattle.mesh_defs.specs.declared.Place.{Place}
use Rattle.mesh_defs.specs.Mesh.{Row, Section}
use Rattle.input_defs.specs.declared.scan_defs.NumberFault.{NumberFault}
use Rattle.input_defs.specs.declared.scan_defs.NumberFault.TheVariants as numbers
use Rattle.input_defs.specs.scan_defs.Numbers.{Decimal, uint_of, int_of, decimal_of}
use Rattle.input_defs.specs.declared.DataFault.{DataFault}
use Rattle.input_defs.specs.declared.DataFault.TheVariants.{BadNumber, BadCount, BadName, Components, UnknownNumber, OutOfRange, Ended}
use Rattle.input_defs.specs.Causes.{ok_where}
use Rattle.input_defs.specs.Bodies.{Lexeme, Faults, Reader, give, ◌>>=◌, many, number, tested, uint, int, fixed, quoted, whole}
use Rattle.input_defs.specs.Sections.{has_number}

abbrev pub data_number_fault : NumberFault → ℕ → DataFault
data_number_fault numbers.NotNumber line = BadNumber line
data_number_fault numbers.OutOfRange line = OutOfRange line

-- the faults of every body, where this line ends it
abbrev pub faults_at : ℕ → Faults DataFault
faults_at end = record { number = data_number_fault; name = BadName; ended = Ended end }

-- a real tag has the shape of a fixed-point number, and any value
abbrev pub real : Reader DataFault Decimal
real = number (λ token. ok_or (decimal_of token) numbers.NotNumber)

-- 1, 3 or 9 components
abbrev pub comps_on : ℕ → ℤ → Result ℕ DataFault
comps_on line (pos n) = ok_where ((n == 1) || (n == 3) || (n == 9)) n (Components line n)
comps_on line (negsuc n) = Err (Components line 0)

abbrev pub rows_on : ℕ → ℤ → Result ℕ DataFault
rows_on line (pos n) = Ok n
rows_on line (negsuc n) = Err (BadCount line)

-- the values of a node or element of one of these numbers
unfoldable pub row : List ℕ → ℕ → Reader DataFault Row
row known comps = do
  number ← tested uint_of (λ line n. ok_where (has_number known n) n (UnknownNumber line n))
  values ← many comps fixed
  give (record { number = number; values = values })

-- String tags, of which the first is the name; real tags; integer tags, of which the first three are the time step, the
-- number of components and the number of rows; then the rows.
unfoldable pub section : Place → List ℕ → Reader DataFault Section
section on known = do
  string_count ← uint
  strings ← many string_count quoted
  real_count ← uint
  reals ← many real_count real
  int_count ← tested uint_of (λ line n. ok_where (nat_le 3 n) n (BadCount line))
  step ← int
  comps ← tested int_of comps_on
  row_count ← tested int_of rows_on
  further ← many (int_count - 3) int
  rows ← many row_count (row known comps)
  give (record { on = on; name = get_or strings 0 []; comps = comps; rows = rows })

-- a whole body that this line ends
unfoldable pub section_of : Place → List ℕ → ℕ → List Lexeme → Result Section DataFault
section_of on known end body = whole BadCount (section on known) (faults_at end) body
