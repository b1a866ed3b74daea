-- The exit status of each end of a run.
use Rattle.std.specs.Prelude.{ℕ}
use Rattle.input_defs.specs.declared.Status.{Status}
use Rattle.input_defs.specs.declared.Status.TheVariants.{Done, Words, Plan, Mesh, ReadFault, WriteFault, NoMemory, TooLong}

abbrev pub status_code : Status → ℕ
status_code Done = 0
status_code Words = 2
status_code Plan = 3
status_code Mesh = 4
status_code ReadFault = 6
status_code WriteFault = 7
status_code NoMemory = 8
status_code TooLong = 9
