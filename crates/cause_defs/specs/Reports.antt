-- What a call that writes leaves of its sink.
use Rattle.std.specs.Prelude.{◌≡◌, ℕ, ◌≤◌, Bool, true, List, Option, Result, Ok, Err}
use Rattle.cause_defs.specs.declared.ReportFault.{ReportFault}
use Rattle.cause_defs.specs.declared.ReportFault.TheVariants.{Write, NoMemory}
use Rattle.cause_defs.specs.Faults.{Rises}
use Rattle.cause_defs.specs.Written.{Prints}

-- the fact holds where writing failed
abbrev pub OnWrite : {A : Type 0} → Result A ReportFault → Type 0 → Type 0
OnWrite (Ok x) P = Unit {0}
OnWrite (Err Write) P = P
OnWrite (Err NoMemory) P = Unit {0}

-- the fact holds unless writing failed
abbrev pub UnlessWrite : {A : Type 0} → Result A ReportFault → Type 0 → Type 0
UnlessWrite (Ok x) P = P
UnlessWrite (Err Write) P = Unit {0}
UnlessWrite (Err NoMemory) P = P

-- The call reports this text: it has written the text or, where it failed, a part of it, and has flushed nothing. It answers Write
-- only where the sink's count rose, and a sink that counts failures alone has its old count at every other answer.
-- The meanings of the sink's type come first, then the answer, and then the sink before and after the call.
pub record Reports {W A : Type 0} (written : W → Option (List ℕ)) (flushed faults : W → ℕ) (counts_failures_alone : W → Bool)
    (result : Result A ReportFault) (old new : W) (text : List ℕ) : Type 0 where
  pub prints : Prints result (written old) (written new) text
  pub flushed_stay : flushed new ≡ flushed old
  pub cause : OnWrite result (Rises (faults old) (faults new))
  pub never_falls : faults old ≤ faults new
  pub others : counts_failures_alone old ≡ true → UnlessWrite result (faults new ≡ faults old)
  pub counts_alike : counts_failures_alone new ≡ counts_failures_alone old
