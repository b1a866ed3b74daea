-- What a call that writes the last line of a text leaves of its sink.
use Rattle.std.specs.Prelude.{◌≡◌, ℕ, ◌≤◌, Bool, true, List, Option, Result, OnOk, OnErr}
use Rattle.cause_defs.specs.declared.ReportFault.{ReportFault}
use Rattle.cause_defs.specs.Faults.{Rises}
use Rattle.cause_defs.specs.Written.{Prints, AreFlushed}
use Rattle.cause_defs.specs.Reports.{OnWrite, UnlessWrite}

-- The call reports this text, as `Reports` says, but that after an Ok all bytes are flushed.
-- The meanings of the sink's type come first, then the answer, and then the sink before and after the call.
pub record Delivers {W A : Type 0} (written : W → Option (List ℕ)) (flushed faults : W → ℕ) (counts_failures_alone : W → Bool)
    (result : Result A ReportFault) (old new : W) (text : List ℕ) : Type 0 where
  pub prints : Prints result (written old) (written new) text
  pub all_flushed : OnOk result (AreFlushed (written new) (flushed new))
  pub flushed_stay : OnErr result (flushed new ≡ flushed old)
  pub cause : OnWrite result (Rises (faults old) (faults new))
  pub never_falls : faults old ≤ faults new
  pub others : counts_failures_alone old ≡ true → UnlessWrite result (faults new ≡ faults old)
  pub counts_alike : counts_failures_alone new ≡ counts_failures_alone old
