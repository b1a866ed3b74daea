-- Facts by the status of a call.
use Rattle.std.specs.Prelude.{Result, Ok, Err}
use Rattle.cause_defs.specs.declared.ReportFault.{ReportFault}
use Rattle.cause_defs.specs.declared.ReportFault.TheVariants as fault
use Rattle.input_defs.specs.declared.Status.{Status}
use Rattle.input_defs.specs.declared.Status.TheVariants.{Done, Words, Plan, ReadFault, WriteFault, NoMemory, TooLong}
use Rattle.input_defs.specs.declared.Status.TheVariants as status

-- how a call ends that has this status once its text is written
abbrev pub ending : {A : Type 0} → Result A ReportFault → Status → Status
ending (Ok x) status = status
ending (Err fault.Write) status = WriteFault
ending (Err fault.NoMemory) status = NoMemory

-- the fact holds where the call has not answered
abbrev pub UnlessAnswer : Status → Type 0 → Type 0
UnlessAnswer WriteFault P = P
UnlessAnswer NoMemory P = P
UnlessAnswer Done P = Unit {0}
UnlessAnswer Words P = Unit {0}
UnlessAnswer Plan P = Unit {0}
UnlessAnswer status.Mesh P = Unit {0}
UnlessAnswer ReadFault P = Unit {0}
UnlessAnswer TooLong P = Unit {0}

-- the fact holds unless the sink has failed
abbrev pub UnlessWriteFault : Status → Type 0 → Type 0
UnlessWriteFault WriteFault P = Unit {0}
UnlessWriteFault NoMemory P = P
UnlessWriteFault Done P = P
UnlessWriteFault Words P = P
UnlessWriteFault Plan P = P
UnlessWriteFault status.Mesh P = P
UnlessWriteFault ReadFault P = P
UnlessWriteFault TooLong P = P

-- the fact holds unless the shelf, the sink or memory has failed
abbrev pub UnlessFault : Status → Type 0 → Type 0
UnlessFault ReadFault P = Unit {0}
UnlessFault WriteFault P = Unit {0}
UnlessFault NoMemory P = Unit {0}
UnlessFault Done P = P
UnlessFault Words P = P
UnlessFault Plan P = P
UnlessFault status.Mesh P = P
UnlessFault TooLong P = P
