-- What is known of the bytes of a reader or a writer, as a premise.
use Rattle.std.specs.Prelude.{◌≡◌, ℕ, List, Option, Some, None, Result}
use Rattle.cause_defs.specs.Told.{Told, untold, told}
use Rattle.cause_defs.specs.Written.{Prints}

-- known bytes are told
abbrev pub told_if_known : Option (List ℕ) → Told (List ℕ)
told_if_known None = untold
told_if_known (Some bytes) = told bytes

-- where the old bytes are known, the call printed the text
abbrev pub PrintsWhereKnown : {A E : Type 0} → Result A E → Option (List ℕ) → Option (List ℕ) → List ℕ → Type 0
PrintsWhereKnown answer None new text = Unit {0}
PrintsWhereKnown answer (Some old) new text = Prints answer (Some old) new text

-- where the old bytes are known, they are the new ones
abbrev pub StayWhereKnown : Option (List ℕ) → Option (List ℕ) → Type 0
StayWhereKnown None new = Unit {0}
StayWhereKnown (Some old) new = new ≡ Some old
