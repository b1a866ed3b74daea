-- What a call reads that goes over a part of the body of a section. The fault of a body that ends too early hangs on the
-- header line after it, so until that is read it may be any fault.
use Rattle.std.specs.Prelude.{◌≡◌, ◌≢◌, Result, Ok, Err}
use Rattle.input_defs.specs.scan_defs.Items.{Spot}
use Rattle.input_defs.specs.declared.DataFault.{DataFault}
use Rattle.input_defs.specs.declared.DataFault.TheVariants as data_fault
use Rattle.input_defs.specs.declared.MshFault.{MshFault}
use Rattle.input_defs.specs.declared.MshFault.TheVariants.{BadNumber, BadCount, BadName, Components, UnknownNumber, OutOfRange, NoMemory}
use Rattle.input_defs.specs.Bodies.{Reader}
use Rattle.input_defs.specs.Sections.{faults_of}
use Rattle.input_laws.specs.reading_laws.Lexemes.{lexemes, beyond}
use Rattle.msh_reader.specs.declared.trouble.Trouble.{Trouble}
use Rattle.msh_reader.specs.declared.trouble.Trouble.TheVariants.{Fault, Ended}

-- a fault of a data section as trouble of the file
abbrev pub trouble_of : DataFault → Trouble
trouble_of (data_fault.BadNumber line) = Fault (BadNumber line)
trouble_of (data_fault.BadCount line) = Fault (BadCount line)
trouble_of (data_fault.BadName line) = Fault (BadName line)
trouble_of (data_fault.Components line got) = Fault (Components line got)
trouble_of (data_fault.UnknownNumber line number) = Fault (UnknownNumber line number)
trouble_of (data_fault.OutOfRange line) = Fault (OutOfRange line)
trouble_of (data_fault.Ended line) = Ended
trouble_of data_fault.NoMemory = Fault NoMemory

-- the fault that it is, where this is the one that the body ends too early
abbrev pub fault_where : MshFault → Trouble → MshFault
fault_where ended (Fault fault) = fault
fault_where ended Ended = ended

-- memory ran out
abbrev pub no_memory : Trouble
no_memory = Fault NoMemory

-- the answer is what the reader gives from one place to another, up to want of memory
abbrev pub Reads : {A : Type 0} → Reader MshFault A → Spot → Result A Trouble → Spot → Type 0
Reads r old (Ok x) new = (ended : MshFault) → r (faults_of ended) (lexemes old) ≡ Ok (x, lexemes new)
Reads r old (Err t) new = t ≢ no_memory → (ended : MshFault) → r (faults_of ended) (lexemes old) ≡ Err (fault_where ended t)

-- a call that stays in the body and reads this
pub record Goes {A : Type 0} (r : Reader MshFault A) (old : Spot) (answer : Result A Trouble) (new : Spot) : Type 0 where
  pub stays : beyond new ≡ beyond old
  pub reads : Reads r old answer new

-- what is left to read gives what the whole gives
pub record Resumes {A : Type 0} (r : Reader MshFault A) (old : Spot) (rest : Reader MshFault A) (now : Spot) : Type 0 where
  pub stays : beyond now ≡ beyond old
  pub reads : (ended : MshFault) → r (faults_of ended) (lexemes old) ≡ rest (faults_of ended) (lexemes now)
