-- How calls end, as the headline has it.
use Rattle.std.proofs.Common.{◌≡◌, ℕ, zero, suc, ◌≤◌, Bool, false, if◌then◌else◌, ◌==◌, List, [], ◌∷◌, ◌++◌, length, take, Option, Some, None, Result, Ok, Err, refl, sym, ap, ◌∙◌, subst, inl, inr, arith, append-nil, append_assoc}
use Rattle.std.specs.Prelude.{◌⊎◌}
use Rattle.std.specs.List.{AllByRecursion}
use Rattle.std.proofs.Math.Dec.{eqb-zero-suc}
use Rattle.cause_defs.specs.declared.ReportFault.{ReportFault}
use Rattle.cause_defs.specs.declared.ReportFault.TheVariants as fault
use Rattle.cause_defs.specs.Faults.{Rises}
use Rattle.cause_defs.specs.Reports.{OnWrite}
use Rattle.cause_defs.specs.Written.{appended, AppendsPart}
use Rattle.cause_defs.proofs.Appending.{appended-nil}
use Rattle.mesh_defs.specs.Mesh.{Mesh}
use Rattle.mesh_defs.specs.Diagram.{twist_key}
use Rattle.input_defs.specs.text_defs.Text.{end_line}
use Rattle.sf_defs.specs.Rounds.{Round}
use Rattle.input_defs.specs.declared.Status.{Status}
use Rattle.input_defs.specs.declared.Status.TheVariants.{Done, Words, Plan, ReadFault, WriteFault, NoMemory, TooLong}
use Rattle.input_defs.specs.declared.Status.TheVariants as status
use Rattle.input_defs.specs.Causes.{◌>>=◌, unless}
use Rattle.input_defs.specs.Refused.{Task, Refusal, or_refuse, twist_refused, where_even}
use Rattle.input_defs.specs.States.{states}
use Rattle.headline_defs.specs.Rounds.{Due, due, AreFirst, AreAll}
use Rattle.headline_defs.specs.StepText.{Subject, whole_text}
use Rattle.headline_defs.specs.Headline.{Call, Asking, AskedFiles, given, subject_of, due_where, AreFirstRounds, AreAllRounds, IsRefused, refusing, telling, WritesPart, HasCause, status_given, Headline}
use Rattle.report.specs.Delivery.{Delivers}
use Rattle.plex_job.specs.Seen.{just, seen_alone}
use Rattle.plex_job.specs.Statuses.{ending}
use Rattle.plex_job.specs.Once.{IsSpreadOnce, IsHome, IsDrawn}
use Rattle.plex_job.specs.Homes.{KeepsHome}
use Rattle.plex_job.specs.Begun.{begun, known, AreKept, DeliversText}
use Rattle.plex_job.proofs.Once.{due-first, due-all}
use Rattle.plex_job.proofs.Begun.{whole-known, text-known}

-- ---- rounds

all-first : (m : Mesh) (n : ℕ) (dues : List Due) (rounds : List Round) → AreAll m n dues rounds → AreFirst m n dues rounds
all-first m n dues [] all = tt
all-first m n [] (r ∷ rounds) all = absurd all
all-first m n (d ∷ dues) (r ∷ rounds) all = (all.0, all-first m n dues rounds all.1)

pub all-first_rounds : (given : Result Task Refusal) (rounds : List Round) → AreAllRounds given rounds → AreFirstRounds given rounds
all-first_rounds (Err refusal) rounds all = all
all-first_rounds (Ok task) rounds all = all-first task.mesh task.plan.ranks (due_where (where_even task) task) rounds all

pub none-first : (given : Result Task Refusal) → AreFirstRounds given []
none-first (Err refusal) = refl
none-first (Ok task) = tt

-- the home round is the first that is due, whether the mesh has a twist or not
home-first : (task : Task) (home : Round) → IsHome task.mesh task.plan home → AreFirstRounds (Ok task) (home ∷ [])
unfolding due
home-first task home is = go (where_even task)
  where
    go : (even : Result Task Refusal) → AreFirst task.mesh task.plan.ranks (due_where even task) (home ∷ [])
    go (Err twist) = (is, tt)
    go (Ok even) = (is, tt)

-- with a twist it is all that is due
home-all : (task : Task) (refusal : Refusal) (home : Round) → where_even task ≡ Err refusal → IsHome task.mesh task.plan home → AreAllRounds (Ok task) (home ∷ [])
home-all task refusal home twist is = subst (λ g. AreAll task.mesh task.plan.ranks (due_where g task) (home ∷ [])) (sym twist) (is, tt)

-- ---- parts of texts

abbrev the_empty : List ℕ
the_empty = []

-- a part of no text
no-part : (old new : Option (List ℕ)) → AppendsPart old new [] → new ≡ old
no-part old new (n, is) = is ∙ ap (appended old) (nothing n) ∙ appended-nil old
  where
    nothing : (n : ℕ) → take n [] ≡ the_empty
    nothing zero = refl
    nothing (suc n) = refl

-- nothing is known before the first number round
none-known : (x : Subject) (home : Round) → 1 ≤ length (states x.mesh x.plan) → known x home [] ≡ []
unfolding known begun
none-known x home some = ap (λ b. if b then end_line else []) (none (length (states x.mesh x.plan)) some)
  where
    none : (n : ℕ) → 1 ≤ n → (0 == n) ≡ false
    none zero h = absurd (omega (arith, h))
    none (suc n) h = eqb-zero-suc n

-- ---- causes

-- the sink has failed, or memory ran out, after a part of what may be begun
pub failed-cause : (A : Type 0) (a : Asking) (c : Call) (files : AskedFiles) (added : List Round) (e : ReportFault) (s : Status) → WritesPart a c files added
    → (e ≡ fault.Write → Rises c.sink_before c.sink_after) → HasCause a c files added (ending {A = A} (Err e) s)
failed-cause A a c files added fault.Write s part rose = record { rose = rose refl; part = part }
failed-cause A a c files added fault.NoMemory s part rose = part

pub rose : (A : Type 0) {P : Type 0} (e : ReportFault) → OnWrite {A = A} (Err e) P → e ≡ fault.Write → P
rose A fault.Write r same = r
rose A fault.NoMemory r same = absurd (cc same)

-- a call that fails has the status of its fault
pub failed-complete : (A : Type 0) {P : Type 0} (e : ReportFault) (s : Status) → (e ≡ fault.Write → P) → (P → ⊥) → (t : Status) → (ending {A = A} (Err e) s ≡ t) ⊎ (ending {A = A} (Err e) s ≡ NoMemory)
failed-complete A fault.Write s rose not t = absurd (not (rose refl))
failed-complete A fault.NoMemory s rose not t = inr refl

-- a refusal's status, but that of a file that could not be read
abbrev pub IsRefusing : Status → Type 0
IsRefusing Done = ⊥
IsRefusing Words = Unit {0}
IsRefusing Plan = Unit {0}
IsRefusing status.Mesh = Unit {0}
IsRefusing ReadFault = ⊥
IsRefusing WriteFault = ⊥
IsRefusing NoMemory = ⊥
IsRefusing TooLong = Unit {0}

refused-cause : (a : Asking) (c : Call) (files : AskedFiles) (added : List Round) (s : Status) → IsRefusing s → c.status ≡ s → IsRefused a c files added → HasCause a c files added s
refused-cause a c files added Done is same r = absurd is
refused-cause a c files added Words is same r = r
refused-cause a c files added Plan is same r = r
refused-cause a c files added status.Mesh is same r = r
refused-cause a c files added ReadFault is same r = absurd is
refused-cause a c files added WriteFault is same r = absurd is
refused-cause a c files added NoMemory is same r = absurd is
refused-cause a c files added TooLong is same r = r

module _ {W F : Type 0} (written : W → Option (List ℕ)) (flushed faults : W → ℕ) (alone : W → Bool) (kept : F → List Round) (out out_then : W) (fabric fabric_then : F) where
  abbrev call : Status → Call
  call s = seen_alone written flushed faults kept out out_then fabric fabric_then s

  -- nothing was written when memory ran out
  pub ran-out : (given : Result Task Refusal) (added : List Round) → out_then ≡ out → kept fabric_then ≡ kept fabric ++ added → AreFirstRounds given added → Headline (just given) (call NoMemory)
  ran-out given added same is first = record {
    files = record { plan = None; mesh = None };
    agree = record { plan = tt; mesh = tt };
    added = added;
    kept = is;
    rounds = first;
    cause = inl (ap written same);
    complete = λ told shelf sink. inr refl;
  }

  -- memory ran out before the text, whether the home round is kept or not
  pub ran-out-early : (task : Task) → out_then ≡ out → (kept fabric_then ≡ kept fabric) ⊎ ((home : Round) × KeepsHome kept task fabric fabric_then home) → Headline (just (Ok task)) (call NoMemory)
  ran-out-early task same (inl none) = ran-out (Ok task) [] same (none ∙ sym (append-nil (kept fabric))) (none-first (Ok task))
  ran-out-early task same (inr (home, keeps)) = ran-out (Ok task) (home ∷ []) same keeps.kept_is (home-first task home keeps.home_is)

  -- a refusal, after the rounds that are due with it
  pub refuses : {A : Type 0} (given : Result Task Refusal) (refusal : Refusal) (added : List Round) (result : Result A ReportFault) → (given >>= where_even) ≡ Err refusal → IsRefusing refusal.status
      → kept fabric_then ≡ kept fabric ++ added → AreAllRounds given added → Delivers written flushed faults alone result out out_then refusal.text
      → Headline (just given) (call (ending result refusal.status))
  refuses given refusal added (Ok x) is refusing_status rounds all delivers = record {
    files = record { plan = None; mesh = None };
    agree = record { plan = tt; mesh = tt };
    added = added;
    kept = rounds;
    rounds = all-first_rounds given added all;
    cause = refused-cause _ _ _ _ refusal.status refusing_status refl (record { refusal = refusal; refused = is; status = refl; rounds = all; answered = record { written = delivers.prints; flushed = delivers.all_flushed } });
    complete = λ told shelf sink. inl (ap status_given (sym is));
  }
  refuses {A} given refusal added (Err e) is refusing_status rounds all delivers = record {
    files = record { plan = None; mesh = None };
    agree = record { plan = tt; mesh = tt };
    added = added;
    kept = rounds;
    rounds = all-first_rounds given added all;
    cause = failed-cause A _ _ _ _ e refusal.status (inr (refusal.text, refusing refusal is, delivers.prints)) (rose A e delivers.cause);
    complete = λ told shelf sink. failed-complete A e refusal.status (rose A e delivers.cause) sink _;
  }

  -- the refusal of a mesh with a twist
  pub refuses-twist : {A : Type 0} (task : Task) (key : ℕ) (home : Round) (result : Result A ReportFault) → twist_key task.mesh ≡ Some key → KeepsHome kept task fabric fabric_then home
      → Delivers written flushed faults alone result out out_then (twist_refused key) → Headline (just (Ok task)) (call (ending result status.Mesh))
  refuses-twist task key home result twisted keeps delivers = refuses (Ok task) refusal (home ∷ []) result twist tt keeps.kept_is (home-all task refusal home twist keeps.home_is) delivers
    where
      refusal : Refusal
      refusal = record { status = status.Mesh; text = twist_refused key }

      twist : where_even task ≡ Err refusal
      twist = ap (λ o. or_refuse status.Mesh twist_refused (unless o task)) twisted

  -- the text of a task whose mesh has no twist
  pub tells : {A : Type 0} {mid : F} (task : Task) (home : Round) (result : Result A ReportFault) → IsSpreadOnce task.mesh task.plan → twist_key task.mesh ≡ None → KeepsHome kept task fabric mid home
      → DeliversText written flushed faults alone kept (subject_of task) home result out out_then mid fabric_then → Headline (just (Ok task)) (call (ending result Done))
  tells {A} {mid} task home result once even keeps delivered = go result delivered.kept_are delivered.delivers
    where
      rounds : List Round
      rounds = delivered.rounds

      is_even : where_even task ≡ Ok task
      is_even = ap (λ o. or_refuse status.Mesh twist_refused (unless o task)) even

      added_are : kept fabric_then ≡ kept mid ++ rounds → kept fabric_then ≡ kept fabric ++ home ∷ rounds
      added_are are = are ∙ ap (λ l. l ++ rounds) keeps.kept_is ∙ append_assoc (kept fabric) (home ∷ []) rounds

      first_are : AllByRecursion (IsDrawn task.mesh task.plan) rounds → length rounds ≤ length (states task.mesh task.plan) → AreFirstRounds (Ok task) (home ∷ rounds)
      first_are drawn few = subst (λ g. AreFirst task.mesh task.plan.ranks (due_where g task) (home ∷ rounds)) (sym is_even) (due-first task.mesh task.plan once home rounds keeps.home_is drawn few)

      all_are : AllByRecursion (IsDrawn task.mesh task.plan) rounds → length rounds ≡ length (states task.mesh task.plan) → AreAllRounds (Ok task) (home ∷ rounds)
      all_are drawn each = subst (λ g. AreAll task.mesh task.plan.ranks (due_where g task) (home ∷ rounds)) (sym is_even) (due-all task.mesh task.plan once home rounds keeps.home_is drawn each)

      whole : (rs : List Round) → length rs ≡ length (states task.mesh task.plan) → known (subject_of task) home rs ≡ whole_text (subject_of task) (home ∷ rs)
      whole [] each = absurd (omega (arith, each, once.some))
      whole (r ∷ rs) each = sym (whole-known (subject_of task) once home r rs each)

      part : (c : Call) (files : AskedFiles) (rs : List Round) → length rs ≤ length (states task.mesh task.plan) → AppendsPart c.written_before c.written_after (known (subject_of task) home rs) → WritesPart (just (Ok task)) c files (home ∷ rs)
      part c files [] few p = inl (no-part c.written_before c.written_after (subst (AppendsPart c.written_before c.written_after) (none-known (subject_of task) home once.some) p))
      part c files (r ∷ rs) few p = inr (known (subject_of task) home (r ∷ rs), telling task (known (subject_of task) home (r ∷ rs)) is_even (text-known (subject_of task) once home r rs few), p)

      go : (o : Result A ReportFault) → AreKept kept (subject_of task) o mid fabric_then rounds → Delivers written flushed faults alone o out out_then (known (subject_of task) home rounds) → Headline (just (Ok task)) (call (ending o Done))
      go (Ok x) are delivers = record {
        files = record { plan = None; mesh = None };
        agree = record { plan = tt; mesh = tt };
        added = home ∷ rounds;
        kept = added_are are.kept_are;
        rounds = first_are are.drawn are.few;
        cause = record { task = task; asked = is_even; rounds = all_are are.drawn are.all; answered = record { written = delivers.prints ∙ ap (appended (written out)) (whole rounds are.all); flushed = delivers.all_flushed } };
        complete = λ told shelf sink. inl (ap status_given (sym is_even));
      }
      go (Err e) are delivers = record {
        files = record { plan = None; mesh = None };
        agree = record { plan = tt; mesh = tt };
        added = home ∷ rounds;
        kept = added_are are.kept_are;
        rounds = first_are are.drawn are.few;
        cause = failed-cause A _ _ _ _ e Done (part _ _ rounds are.few delivers.prints) (rose A e delivers.cause);
        complete = λ told shelf sink. failed-complete A e Done (rose A e delivers.cause) sink _;
      }
