-- Calls that report a text, and last one that flushes.
use Rattle.std.proofs.Common.{◌≡◌, ℕ, ◌≤◌, Bool, List, ◌++◌, Option, Result, Ok, Err, ◌∙◌, arith}
use Rattle.std.specs.Prelude.{OnErr, IsErr}
use Rattle.std.specs.Result.{IsErrAnd}
use Rattle.std.proofs.lemmas.Result.{err_from_is_err_and}
use Rattle.cause_defs.specs.declared.ReportFault.{ReportFault}
use Rattle.cause_defs.specs.declared.ReportFault.TheVariants.{Write, NoMemory}
use Rattle.cause_defs.specs.Faults.{Rises}
use Rattle.cause_defs.specs.Reports.{Reports, OnWrite, UnlessWrite}
use Rattle.cause_defs.proofs.Rising.{Rises-earlier}
use Rattle.cause_defs.proofs.Appending.{AppendsPart-first, AppendsPart-whole, Prints-second}
use Rattle.report.specs.Delivery.{Delivers}

-- a count that rose in the later of two calls
OnWrite-earlier : {A : Type 0} (r : Result A ReportFault) (f g h : ℕ) → f ≤ g → OnWrite r (Rises g h) → OnWrite r (Rises f h)
OnWrite-earlier (Ok x) f g h le c = tt
OnWrite-earlier (Err Write) f g h le c = Rises-earlier f g h le c
OnWrite-earlier (Err NoMemory) f g h le c = tt

-- a count that stayed in both of two calls
UnlessWrite-earlier : {A : Type 0} (r : Result A ReportFault) (f g h : ℕ) → g ≡ f → UnlessWrite r (h ≡ g) → UnlessWrite r (h ≡ f)
UnlessWrite-earlier (Ok x) f g h e c = c ∙ e
UnlessWrite-earlier (Err Write) f g h e c = tt
UnlessWrite-earlier (Err NoMemory) f g h e c = c ∙ e

-- a number that stayed in both of two calls
OnErr-earlier : {A E : Type 0} (r : Result A E) (f g h : ℕ) → g ≡ f → OnErr r (h ≡ g) → OnErr r (h ≡ f)
OnErr-earlier (Ok x) f g h e c = c
OnErr-earlier (Err x) f g h e c = c ∙ e

module _ {W : Type 0} {written : W → Option (List ℕ)} {flushed faults : W → ℕ} {alone : W → Bool} where
  -- a text that is reported, and one that is delivered after it
  pub Delivers-then : {A B : Type 0} {x : A} {r : Result B ReportFault} {old mid new : W} {s t : List ℕ}
      → Reports written flushed faults alone (Ok x) old mid s → Delivers written flushed faults alone r mid new t
      → Delivers written flushed faults alone r old new (s ++ t)
  Delivers-then {A} {B} {x} {r} {old} {mid} {new} {s} {t} p q = record {
    prints = Prints-second r (written old) (written mid) (written new) s t p.prints q.prints;
    all_flushed = q.all_flushed;
    flushed_stay = OnErr-earlier r (flushed old) (flushed mid) (flushed new) p.flushed_stay q.flushed_stay;
    cause = OnWrite-earlier r (faults old) (faults mid) (faults new) p.never_falls q.cause;
    never_falls = omega (arith, p.never_falls, q.never_falls);
    others = λ only. UnlessWrite-earlier r (faults old) (faults mid) (faults new) (p.others only) (q.others (p.counts_alike ∙ only));
    counts_alike = q.counts_alike ∙ p.counts_alike;
  }

  -- a call that failed, after which nothing is written
  pub Delivers-failed : {A : Type 0} (r : Result A ReportFault) {old new : W} {s : List ℕ} (t : List ℕ)
      → IsErr r → Reports written flushed faults alone r old new s → Delivers written flushed faults alone r old new (s ++ t)
  Delivers-failed (Ok x) t is p = absurd (cc is)
  Delivers-failed {A} (Err e) {old} {new} {s} t is p = record {
    prints = AppendsPart-first (written old) (written new) s t p.prints;
    all_flushed = tt;
    flushed_stay = p.flushed_stay;
    cause = p.cause;
    never_falls = p.never_falls;
    others = p.others;
    counts_alike = p.counts_alike;
  }

  -- the flush has failed after the whole text was reported
  pub Delivers-unflushed : {A B : Type 0} {x : A} (r : Result B ReportFault) {old mid new : W} {s : List ℕ} → IsErrAnd r (λ f. f ≡ Write)
      → Reports written flushed faults alone (Ok x) old mid s → written new ≡ written mid → flushed new ≡ flushed mid → Rises (faults mid) (faults new)
      → faults mid ≤ faults new → alone new ≡ alone mid → Delivers written flushed faults alone r old new s
  Delivers-unflushed {A} {B} {x} r {old} {mid} {new} {s} is p bytes flushes rose falls alike =
      let q = err_from_is_err_and r is in
      rw (q.1, q.2) (record {
        prints = AppendsPart-whole (written old) (written new) s (bytes ∙ p.prints);
        all_flushed = tt;
        flushed_stay = flushes ∙ p.flushed_stay;
        cause = Rises-earlier (faults old) (faults mid) (faults new) p.never_falls rose;
        never_falls = omega (arith, p.never_falls, falls);
        others = λ only. tt;
        counts_alike = alike ∙ p.counts_alike;
      })
