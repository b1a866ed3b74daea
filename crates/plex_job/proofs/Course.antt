-- The loop over steps: what is reported once some number rounds are kept.
use Rattle.std.proofs.Common.{◌≡◌, ℕ, suc, ◌+◌, ◌<◌, ◌≤◌, Bool, ◌==◌, if◌then◌else◌, List, [], ◌∷◌, ◌++◌, length, Option, Result, Ok, Err, refl, sym, ap, ◌∙◌, subst, arith, append-nil, append_assoc, length-append}
use Rattle.std.specs.Prelude.{IsErr, OnOk}
use Rattle.std.specs.Result.{IsErrAnd}
use Rattle.std.specs.List.{AllByRecursion}
use Rattle.std.proofs.Math.Dec.{eqb-suc-zero}
use Rattle.std.proofs.lemmas.Bool.{eq-eqb}
use Rattle.plain_lists.proofs.Each.{all_append}
use Rattle.cause_defs.specs.declared.ReportFault.{ReportFault}
use Rattle.cause_defs.specs.declared.ReportFault.TheVariants.{NoMemory}
use Rattle.cause_defs.specs.Reports.{Reports}
use Rattle.cause_defs.proofs.Reporting.{Reports-none, Reports-then, Reports-exit, Reports-no_memory}
use Rattle.input_defs.specs.text_defs.Text.{end_line}
use Rattle.sf_defs.specs.declared.Tag.TheVariants.{Number}
use Rattle.sf_defs.specs.Rounds.{Round}
use Rattle.sf_fabric.specs.Kept.{kept_as, kept_with}
use Rattle.input_defs.specs.States.{states}
use Rattle.headline_defs.specs.StepText.{Subject, step_lines}
use Rattle.report.specs.Delivery.{Delivers}
use Rattle.report.proofs.Delivering.{Delivers-then, Delivers-failed}
use Rattle.dist_number.specs.Drawn.{Drawn, drawn_in}
use Rattle.plex_job.specs.declared.spreading.Spreading.{Spreading}
use Rattle.plex_job.specs.Once.{IsSpreadOnce, IsHome, IsDrawn, state_at}
use Rattle.plex_job.specs.Spreading.{IsStepOf, printed, numbers_by}
use Rattle.plex_job.specs.Begun.{before_step, begun, known, ReportsSteps, DeliversText}
use Rattle.plex_job.proofs.Begun.{begun-next}

none-after : {A : Type 0} (P : Type 0) (r : Result A ReportFault) → IsErr r → OnOk r P
none-after P (Ok x) is = absurd (cc is)
none-after P (Err e) is = tt

is-err : {A : Type 0} (P : ReportFault → Type 0) (r : Result A ReportFault) → IsErrAnd r P → IsErr r
is-err P (Ok x) is = absurd is
is-err P (Err e) is = refl

-- The first i steps are reported, each after its round. The meanings of the sink's and the fabric's types come first, then
-- what is printed and the home round, and sink and fabric before the first step and now.
pub record AreDone {W F : Type 0} (written : W → Option (List ℕ)) (flushed faults : W → ℕ) (alone : W → Bool) (kept : F → List Round)
    (x : Subject) (home : Round) (i : ℕ) (old now : W) (fabric fabric_now : F) : Type 0 where
  pub rounds : List Round
  pub kept_are : kept fabric_now ≡ kept fabric ++ rounds
  pub drawn : AllByRecursion (IsDrawn x.mesh x.plan) rounds
  pub count : length rounds ≡ i
  pub reports : Reports written flushed faults alone (Ok (tt {0})) old now (begun x home rounds)

module _ {W F : Type 0} (written : W → Option (List ℕ)) (flushed faults : W → ℕ) (alone : W → Bool) (kept : F → List Round) (x : Subject) (home : Round) where
  abbrev Done : ℕ → W → W → F → F → Type 0
  Done = AreDone written flushed faults alone kept x home

  abbrev Steps : {A : Type 0} → Result A ReportFault → W → W → F → F → Type 0
  Steps = ReportsSteps written flushed faults alone kept x home

  -- before the first step
  pub done-none : (old : W) (fabric : F) → Done 0 old old fabric fabric
  unfolding begun
  done-none old fabric = record { rounds = []; kept_are = sym (append-nil (kept fabric)); drawn = tt; count = refl; reports = Reports-none tt old }

  -- after the last one
  pub done-all : {A : Type 0} (result : A) (i : ℕ) (old now : W) (fabric fabric_now : F) → Done i old now fabric fabric_now → i ≡ length (states x.mesh x.plan) → Steps (Ok result) old now fabric fabric_now
  done-all result i old now fabric fabric_now done all = record {
    rounds = done.rounds;
    kept_are = record { kept_are = done.kept_are; drawn = done.drawn; few = omega (arith, done.count, all); all = done.count ∙ all };
    reports = record {
      prints = done.reports.prints;
      flushed_stay = done.reports.flushed_stay;
      cause = tt;
      never_falls = done.reports.never_falls;
      others = done.reports.others;
      counts_alike = done.reports.counts_alike;
    };
  }

  -- no round was drawn, for want of memory
  pub stop-undrawn : {A : Type 0} (result : Result A ReportFault) (i : ℕ) (old now : W) (fabric fabric_now later : F) → IsErrAnd result (λ e. e ≡ NoMemory) → Done i old now fabric fabric_now
      → i ≤ length (states x.mesh x.plan) → kept later ≡ kept fabric_now → Steps result old now fabric later
  stop-undrawn result i old now fabric fabric_now later failed done few same = record {
    rounds = done.rounds;
    kept_are = record { kept_are = same ∙ done.kept_are; drawn = done.drawn; few = omega (arith, done.count, few); all = none-after _ result (is-err _ result failed) };
    reports = subst (Reports written flushed faults alone result old now) (append-nil (begun x home done.rounds)) (Reports-no_memory result [] failed done.reports);
  }

  module _ (once : IsSpreadOnce x.mesh x.plan) (r : Round) (drawn : IsDrawn x.mesh x.plan r) (i : ℕ) (low : i < length (states x.mesh x.plan)) (old mid : W) (fabric fabric_then later : F)
      (done : Done i old mid fabric fabric_then) (one : kept later ≡ kept fabric_then ++ r ∷ []) where
    abbrev lines : List ℕ
    lines = before_step x i ++ step_lines x (state_at x i) home r

    kept-more : kept later ≡ kept fabric ++ (done.rounds ++ r ∷ [])
    kept-more = one ∙ ap (λ l. l ++ r ∷ []) done.kept_are ∙ append_assoc (kept fabric) done.rounds (r ∷ [])

    drawn-more : AllByRecursion (IsDrawn x.mesh x.plan) (done.rounds ++ r ∷ [])
    drawn-more = all_append (IsDrawn x.mesh x.plan) done.rounds (r ∷ []) done.drawn (drawn, tt)

    count-more : length (done.rounds ++ r ∷ []) ≡ i + 1
    count-more = omega (arith, length-append done.rounds (r ∷ []), done.count)

    text-more : begun x home done.rounds ++ lines ≡ begun x home (done.rounds ++ r ∷ [])
    text-more = sym (begun-next x once home done.rounds r i done.count low)

    -- the step's lines are reported after its round
    pub done-next : (new : W) → Reports written flushed faults alone (Ok (tt {0})) mid new lines → Done (i + 1) old new fabric later
    done-next new q = record { rounds = done.rounds ++ r ∷ []; kept_are = kept-more; drawn = drawn-more; count = count-more; reports = subst (Reports written flushed faults alone (Ok tt) old new) text-more (Reports-then done.reports q) }

    -- memory ran out before its first line
    pub stop-unwritten : {A : Type 0} (result : Result A ReportFault) → IsErrAnd result (λ e. e ≡ NoMemory) → Steps result old mid fabric later
    stop-unwritten result failed = record {
      rounds = done.rounds ++ r ∷ [];
      kept_are = record { kept_are = kept-more; drawn = drawn-more; few = omega (arith, count-more, low); all = none-after _ result (is-err _ result failed) };
      reports = subst (Reports written flushed faults alone result old mid) text-more (Reports-no_memory result lines failed done.reports);
    }

    -- its lines could not be written
    pub stop-writing : {A : Type 0} (result : Result A ReportFault) (e : ReportFault) (new : W) → IsErrAnd result (λ h. h ≡ e) → Reports {A = Unit {0}} written flushed faults alone (Err e) mid new lines → Steps result old new fabric later
    stop-writing result e new failed q = record {
      rounds = done.rounds ++ r ∷ [];
      kept_are = record { kept_are = kept-more; drawn = drawn-more; few = omega (arith, count-more, low); all = none-after _ result (is-err _ result failed) };
      reports = Reports-exit result failed (subst (Reports {A = Unit {0}} written flushed faults alone (Err e) old new) text-more (Reports-then done.reports q));
    }

  -- ---- the end of the text

  abbrev Text : {A : Type 0} → Result A ReportFault → W → W → F → F → Type 0
  Text = DeliversText written flushed faults alone kept x home

  all-known : (rounds : List Round) → length rounds ≡ length (states x.mesh x.plan) → begun x home rounds ++ end_line ≡ known x home rounds
  unfolding known
  all-known rounds all = ap (λ b. begun x home rounds ++ (if b then end_line else [])) (sym (eq-eqb (length rounds) (length (states x.mesh x.plan)) all))

  -- a step was not written
  pub text-stop : {A B : Type 0} (result : Result A ReportFault) (e : ReportFault) (old new : W) (fabric later : F) → IsErrAnd result (λ h. h ≡ e) → Steps {A = B} (Err e) old new fabric later → Text result old new fabric later
  unfolding known
  text-stop result e old new fabric later failed steps = record {
    rounds = steps.rounds;
    kept_are = record { kept_are = steps.kept_are.kept_are; drawn = steps.kept_are.drawn; few = steps.kept_are.few; all = none-after _ result (is-err _ result failed) };
    delivers = Delivers-failed result _ (is-err _ result failed) (Reports-exit result failed steps.reports);
  }

  -- the last line, after all steps
  pub text-end : {A B : Type 0} (y : B) (result : Result A ReportFault) (old mid new : W) (fabric later : F) → Steps (Ok y) old mid fabric later → Delivers written flushed faults alone result mid new end_line → Text result old new fabric later
  text-end y result old mid new fabric later steps q = record {
    rounds = steps.rounds;
    kept_are = record { kept_are = steps.kept_are.kept_are; drawn = steps.kept_are.drawn; few = steps.kept_are.few; all = on_ok result steps.kept_are.all };
    delivers = subst (Delivers written flushed faults alone result old new) (all-known steps.rounds steps.kept_are.all) (Delivers-then steps.reports q);
  }
    where
      on_ok : {A : Type 0} {P : Type 0} (r : Result A ReportFault) → P → OnOk r P
      on_ok (Ok x) p = p
      on_ok (Err e) p = tt

-- ---- the rounds of a step

-- a number round is kept
pub kept-number : (rounds : List Round) (r : Round) → r.tag ≡ Number → kept_with rounds r ≡ rounds ++ r ∷ []
kept-number rounds r tag = ap (λ t. kept_as t rounds r) tag

-- after the first step the home round is not shown again
pub later-none : (i : ℕ) (home : Round) → [] ≡ (if i + 1 == 0 then home ∷ [] else [])
later-none i home = let place : i + 1 ≡ suc i = omega arith in sym (ap (λ k. if k == 0 then home ∷ [] else []) place ∙ ap (λ b. if b then home ∷ [] else []) (eqb-suc-zero i))

-- what a step is printed of
pub step-of : (s : Spreading) (i : ℕ) (home latest : Round) (bases : Drawn) (numbers : List (List ℕ)) (rounds before : List Round) → IsHome (printed s).mesh (printed s).plan home
    → IsDrawn (printed s).mesh (printed s).plan latest → bases ≡ drawn_in latest → numbers ≡ numbers_by (printed s).mesh (printed s).plan bases.bases
    → rounds ≡ before ++ latest ∷ [] → before ≡ (if i == 0 then home ∷ [] else []) → IsStepOf s i home latest bases numbers rounds
step-of s i home latest bases numbers rounds before is drawn bases_are numbers_are more shown_are = record {
  home_is = is;
  latest_is = drawn;
  bases_are = bases_are;
  numbers_are = numbers_are ∙ ap (λ (d : Drawn). numbers_by (printed s).mesh (printed s).plan d.bases) bases_are;
  rounds_are = more ∙ ap (λ l. l ++ latest ∷ []) shown_are;
}
