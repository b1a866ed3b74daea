-- The answers of a `take`, by cases, so that a clause on one of them computes where the answer is known.
use Rattle.std.specs.Prelude.{Result, Ok, Err}
use Rattle.cause_defs.specs.Told.{Told, untold, absent, told}
use Rattle.shelf_io.specs.declared.shelf.ShelfFault.{ShelfFault}
use Rattle.shelf_io.specs.declared.shelf.ShelfFault.TheVariants.{Failed, TooLong, NoMemory}

-- the fact holds where the answer is Failed
abbrev pub OnFailed : {A : Type 0} → Result A ShelfFault → Type 0 → Type 0
OnFailed (Ok x) P = Unit {0}
OnFailed (Err Failed) P = P
OnFailed (Err TooLong) P = Unit {0}
OnFailed (Err NoMemory) P = Unit {0}

-- the fact holds at every answer but Failed
abbrev pub UnlessFailed : {A : Type 0} → Result A ShelfFault → Type 0 → Type 0
UnlessFailed (Ok x) P = P
UnlessFailed (Err Failed) P = Unit {0}
UnlessFailed (Err TooLong) P = P
UnlessFailed (Err NoMemory) P = P

-- the fact holds where the answer is TooLong
abbrev pub OnTooLong : {A : Type 0} → Result A ShelfFault → Type 0 → Type 0
OnTooLong (Ok x) P = Unit {0}
OnTooLong (Err Failed) P = Unit {0}
OnTooLong (Err TooLong) P = P
OnTooLong (Err NoMemory) P = Unit {0}

-- the answer is Failed, or memory was short
abbrev pub IsFailedOrNoMemory : {A : Type 0} → Result A ShelfFault → Type 0
IsFailedOrNoMemory (Ok x) = ⊥
IsFailedOrNoMemory (Err Failed) = Unit {0}
IsFailedOrNoMemory (Err TooLong) = ⊥
IsFailedOrNoMemory (Err NoMemory) = Unit {0}

-- the fact holds where it is told that there is no such thing
abbrev pub WhereAbsent : {A : Type 0} → Told A → Type 0 → Type 0
WhereAbsent untold P = Unit {0}
WhereAbsent absent P = P
WhereAbsent (told x) P = Unit {0}
