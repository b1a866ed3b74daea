-- The line of a fault.
use Rattle.std.specs.Prelude.{ℕ}
use Rattle.input_defs.specs.declared.DataFault.{DataFault}
use Rattle.input_defs.specs.declared.DataFault.TheVariants as data_fault
use Rattle.input_defs.specs.declared.MshFault.{MshFault}
use Rattle.input_defs.specs.declared.MshFault.TheVariants.{NotMsh, Version, Binary, Header, BadNumber, BadCount, BadName, Unclosed, RepeatedSection, MissingSection, RepeatedNodeNumber, ElementType, UnknownNode, RepeatedNode, Components, UnknownNumber, OutOfRange, TooMany, NoMemory}

-- the line that a fault of a mesh file carries; want of memory, which no definition gives, has none
abbrev pub line_of : MshFault → ℕ
line_of (NotMsh line) = line
line_of (Version line) = line
line_of (Binary line) = line
line_of (Header line) = line
line_of (BadNumber line) = line
line_of (BadCount line) = line
line_of (BadName line) = line
line_of (Unclosed line) = line
line_of (RepeatedSection line) = line
line_of (MissingSection line nodes) = line
line_of (RepeatedNodeNumber line number) = line
line_of (ElementType line kind) = line
line_of (UnknownNode line number) = line
line_of (RepeatedNode line number) = line
line_of (Components line got) = line
line_of (UnknownNumber line number) = line
line_of (OutOfRange line) = line
line_of (TooMany line what) = line
line_of NoMemory = 0

-- the same of a data section
abbrev pub data_line_of : DataFault → ℕ
data_line_of (data_fault.BadNumber line) = line
data_line_of (data_fault.BadCount line) = line
data_line_of (data_fault.BadName line) = line
data_line_of (data_fault.Components line got) = line
data_line_of (data_fault.UnknownNumber line number) = line
data_line_of (data_fault.OutOfRange line) = line
data_line_of (data_fault.Ended line) = line
data_line_of data_fault.NoMemory = 0
