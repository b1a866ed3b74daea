-- Calls that report one after another. What has been reported so far is what a call that was answered Ok would have reported.
use Rattle.std.proofs.Common.{◌≡◌, ℕ, ◌+◌, ◌<◌, ◌≤◌, Bool, true, List, [], ◌++◌, length, get_or, take, drop, Option, Result, Ok, Err, refl, sym, ap, ◌∙◌, arith}
use Rattle.std.specs.List.{flat_map}
use Rattle.std.specs.Result.{IsErrAnd}
use Rattle.std.proofs.lemmas.Result.{err_from_is_err_and}
use Rattle.std.proofs.lemmas.List.{take-append-drop, drop_more}
use Rattle.std.proofs.lemmas.List.Concat.{flat_map-append}
use Rattle.cause_defs.specs.declared.ReportFault.{ReportFault}
use Rattle.cause_defs.specs.declared.ReportFault.TheVariants.{Write, NoMemory}
use Rattle.cause_defs.specs.Faults.{Rises}
use Rattle.cause_defs.specs.Reports.{Reports, OnWrite, UnlessWrite}
use Rattle.cause_defs.proofs.Rising.{Rises-earlier}
use Rattle.cause_defs.proofs.Appending.{appended-nil, AppendsPart-first, AppendsPart-whole, Prints-second}

-- a count that rose in the later of two calls
OnWrite-earlier : {A : Type 0} (r : Result A ReportFault) (f g h : ℕ) → f ≤ g → OnWrite r (Rises g h) → OnWrite r (Rises f h)
OnWrite-earlier (Ok x) f g h le c = tt
OnWrite-earlier (Err Write) f g h le c = Rises-earlier f g h le c
OnWrite-earlier (Err NoMemory) f g h le c = tt

-- a count that stayed in both of two calls
UnlessWrite-earlier : {A : Type 0} (r : Result A ReportFault) (f g h : ℕ) → g ≡ f → UnlessWrite r (h ≡ g) → UnlessWrite r (h ≡ f)
UnlessWrite-earlier (Ok x) f g h e c = c ∙ e
UnlessWrite-earlier (Err Write) f g h e c = tt
UnlessWrite-earlier (Err NoMemory) f g h e c = c ∙ e

-- the texts of the items before a place, at it and after it
flat_map-split : {X : Type 0} (f : X → List ℕ) (xs : List X) (i : ℕ) (d : X) → i < length xs → flat_map f xs ≡ flat_map f (take i xs) ++ (f (get_or xs i d) ++ flat_map f (drop (i + 1) xs))
flat_map-split f xs i d lt =
    ap (flat_map f) (sym (take-append-drop i xs)) ∙ flat_map-append f (take i xs) (drop i xs) ∙ ap (λ (t : List ℕ). flat_map f (take i xs) ++ t) (ap (flat_map f) (drop_more xs i d lt))

-- a fault that is handed on
OnWrite-handed : (A B : Type 0) (e : ReportFault) (P : Type 0) → OnWrite {A = A} (Err e) P → OnWrite {A = B} (Err e) P
OnWrite-handed A B Write P c = c
OnWrite-handed A B NoMemory P c = tt

UnlessWrite-handed : (A B : Type 0) (e : ReportFault) (P : Type 0) → UnlessWrite {A = A} (Err e) P → UnlessWrite {A = B} (Err e) P
UnlessWrite-handed A B Write P c = tt
UnlessWrite-handed A B NoMemory P c = c

module _ {W : Type 0} {written : W → Option (List ℕ)} {flushed faults : W → ℕ} {alone : W → Bool} where
  -- nothing is reported yet
  pub Reports-none : {A : Type 0} (x : A) (old : W) → Reports written flushed faults alone (Ok x) old old []
  Reports-none x old = record {
    prints = sym (appended-nil (written old));
    flushed_stay = refl;
    cause = tt;
    never_falls = omega arith;
    others = λ _. refl;
    counts_alike = refl;
  }

  -- one text after another
  pub Reports-then : {A B : Type 0} {x : A} {r : Result B ReportFault} {old mid new : W} {s t : List ℕ}
      → Reports written flushed faults alone (Ok x) old mid s → Reports written flushed faults alone r mid new t
      → Reports written flushed faults alone r old new (s ++ t)
  Reports-then {A} {B} {x} {r} {old} {mid} {new} {s} {t} p q = record {
    prints = Prints-second r (written old) (written mid) (written new) s t p.prints q.prints;
    flushed_stay = q.flushed_stay ∙ p.flushed_stay;
    cause = OnWrite-earlier r (faults old) (faults mid) (faults new) p.never_falls q.cause;
    never_falls = omega (arith, p.never_falls, q.never_falls);
    others = λ only. UnlessWrite-earlier r (faults old) (faults mid) (faults new) (p.others only) (q.others (p.counts_alike ∙ only));
    counts_alike = q.counts_alike ∙ p.counts_alike;
  }

  -- a call that failed, and after which nothing is written
  pub Reports-stop : {A : Type 0} {e : ReportFault} {old new : W} {s : List ℕ} (t : List ℕ)
      → Reports {A = A} written flushed faults alone (Err e) old new s → Reports {A = A} written flushed faults alone (Err e) old new (s ++ t)
  Reports-stop {A} {e} {old} {new} {s} t p = record {
    prints = AppendsPart-first (written old) (written new) s t p.prints;
    flushed_stay = p.flushed_stay;
    cause = p.cause;
    never_falls = p.never_falls;
    others = p.others;
    counts_alike = p.counts_alike;
  }

  -- the exit of a `?`, which hands the fault of a call on
  pub Reports-exit : {A B : Type 0} {e : ReportFault} {old new : W} {s : List ℕ} (r : Result B ReportFault) → IsErrAnd r (λ f. f ≡ e)
      → Reports {A = A} written flushed faults alone (Err e) old new s → Reports {A = B} written flushed faults alone r old new s
  Reports-exit {A} {B} {e} {old} {new} {s} r is p =
      let q = err_from_is_err_and r is in
      rw (q.1, q.2) (record {
        prints = p.prints;
        flushed_stay = p.flushed_stay;
        cause = OnWrite-handed A B e (Rises (faults old) (faults new)) p.cause;
        never_falls = p.never_falls;
        others = λ only. UnlessWrite-handed A B e (faults new ≡ faults old) (p.others only);
        counts_alike = p.counts_alike;
      })

  -- the exit of a `?` where memory ran out after what has been reported
  pub Reports-no_memory : {A B : Type 0} {x : A} {old new : W} {s : List ℕ} (r : Result B ReportFault) (t : List ℕ) → IsErrAnd r (λ f. f ≡ NoMemory)
      → Reports {A = A} written flushed faults alone (Ok x) old new s → Reports {A = B} written flushed faults alone r old new (s ++ t)
  Reports-no_memory {A} {B} {x} {old} {new} {s} r t is p =
      let q = err_from_is_err_and r is in
      rw (q.1, q.2) (record {
        prints = AppendsPart-first (written old) (written new) s t (AppendsPart-whole (written old) (written new) s p.prints);
        flushed_stay = p.flushed_stay;
        cause = tt;
        never_falls = p.never_falls;
        others = p.others;
        counts_alike = p.counts_alike;
      })

  -- ---- a loop that reports a text for each item

  -- it stops at one of them
  pub Reports-inside : {X A C : Type 0} (f : X → List ℕ) (xs : List X) (i : ℕ) (d : X) {x : C} {e : ReportFault} {old mid new : W} → i < length xs
      → Reports written flushed faults alone (Ok x) old mid (flat_map f (take i xs)) → Reports {A = A} written flushed faults alone (Err e) mid new (f (get_or xs i d))
      → Reports {A = A} written flushed faults alone (Err e) old new (flat_map f xs)
  Reports-inside f xs i d lt p q = rw (flat_map-split f xs i d lt) (Reports-then p (Reports-stop (flat_map f (drop (i + 1) xs)) q))
