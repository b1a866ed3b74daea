-- A step is printed of what can be printed, and gives the lines of the headline.
use Rattle.std.proofs.Common.{◌≡◌, ◌≢◌, ℕ, ◌+◌, ◌<◌, ◌≤◌, Bool, true, false, ◌==◌, if◌then◌else◌, List, [], ◌∷◌, ◌++◌, length, refl, sym, ap, ◌∙◌, subst, arith}
use Rattle.std.specs.List.{AllByRecursion}
use Rattle.std.proofs.lemmas.Bool.{eq-eqb, eqb-true, eqb-false}
use Rattle.std.proofs.lemmas.List.{length-map}
use Rattle.plain_lists.specs.Lists.{below}
use Rattle.plain_lists.proofs.Each.{all_append}
use Rattle.plain_lists.proofs.Below.{length-below}
use Rattle.sf_defs.specs.declared.Ask.{Ask}
use Rattle.sf_defs.specs.Forest.{Forest}
use Rattle.sf_defs.specs.Rounds.{Round, IsLegal}
use Rattle.rank_defs.specs.Home.{number_asks, bases_of}
use Rattle.rank_defs.specs.Spread.{PlainDist, IsDist, migration_forest, plain_dist}
use Rattle.input_defs.specs.Plans.{Move, Part, Layers, is_part, step_of}
use Rattle.input_defs.specs.declared.Step.TheVariants as step
use Rattle.input_defs.specs.Refused.{Task}
use Rattle.input_defs.specs.States.{states, first_ranks, before_any_step}
use Rattle.input_defs.specs.Further.{full_head}
use Rattle.headline_defs.specs.StepText.{Subject, step_lines}
use Rattle.plan_reader.specs.Drafts.{counts_of}
use Rattle.walk_defs.specs.step_defs.Numbers.{held_numbers}
use Rattle.walk_defs.specs.step_defs.Steps.{plain_step}
use Rattle.headline_laws.specs.step_laws.Printed.{IsPrinted, rounds_of}
use Rattle.headline_laws.proofs.step_laws.Fits.{locals-many, numbers-many, numbers-each, owners-fit, roots-many, leaves-many}
use Rattle.headline_laws.proofs.step_laws.Step.{step-text}
use Rattle.step_report.specs.Conditions.{FitsRanks, CanPrint, no_local}
use Rattle.dist_number.specs.Drawn.{Drawn}
use Rattle.plex_job.specs.job_task.Reading.{task_view}
use Rattle.plex_job.specs.declared.spreading.Spreading.{Spreading}
use Rattle.plex_job.specs.Once.{IsSpreadOnce, state_at}
use Rattle.plex_job.specs.Begun.{before_step}
use Rattle.plex_job.specs.Spreading.{printed, printed_at, numbers_by, first_trace_of, IsSpread, IsStepOf}
use Rattle.plex_job.proofs.Once.{IsPartAfter, built-once, once-after, part-at}

-- ---- what ranks hold

-- the conditions of what is printed
fits-ranks : (t : Task) (d : PlainDist) (bases : List ℕ) (numbers : List (List ℕ)) (trace : Forest) → IsDist d t.mesh (counts_of t.plan.dofs) (first_ranks t.mesh t.plan) t.plan.ranks 0 → length bases ≡ t.plan.ranks
    → numbers ≡ numbers_by t.mesh t.plan bases → trace ≡ first_trace_of t → FitsRanks d bases numbers trace
fits-ranks t d bases numbers trace dist one numbers_are trace_is =
    let m = t.mesh in
    let a = first_ranks m t.plan in
    let n = t.plan.ranks in
    let many : length (plain_dist m (counts_of t.plan.dofs) a n 0).locals ≡ n = locals-many m t.plan.dofs a n 0 in
    let fits : FitsRanks (plain_dist m (counts_of t.plan.dofs) a n 0) bases (held_numbers m a n 0 bases) (migration_forest m a a n) = record {
      has_bases = one ∙ sym many;
      has_ranks = numbers-many m t.plan.dofs a n 0 bases ∙ sym many;
      has_numbers = λ r low. numbers-each m t.plan.dofs a n 0 bases r no_local (subst (λ k. r < k) many low);
      owners = λ r low. owners-fit m t.plan.dofs a n 0 dist.assignment.each r no_local (subst (λ k. r < k) many low);
      knows_ranks = roots-many m t.plan.dofs a n 0 a ∙ sym many;
      has_leaves = λ r low. let same = leaves-many m t.plan.dofs a n 0 a r no_local (subst (λ k. r < k) many low) in omega (arith, same);
    } in
    coe 1 0 (i. FitsRanks (dist.value i) bases (numbers_are i) (trace_is i)) fits

-- ---- a step

not-same : (n k : ℕ) → (n ≡ k → ⊥) → (n == k) ≡ false
not-same n k differ = go (n == k) refl
  where
    go : (b : Bool) → (n == k) ≡ b → (n == k) ≡ false
    go true is = absurd (differ (eqb-true n k is))
    go false is = is

same-test : (i : ℕ) → (i == 0) ≡ (i + 1 == 1)
same-test i = go (i == 0) refl
  where
    go : (b : Bool) → (i == 0) ≡ b → (i == 0) ≡ (i + 1 == 1)
    go true is = is ∙ sym (eq-eqb (i + 1) 1 (omega (arith, eqb-true i 0 is)))
    go false is = let differ : i ≢ 0 = eqb-false i 0 is in is ∙ sym (not-same (i + 1) 1 (λ e. differ (omega (arith, e))))

part-step : (move : Move) → is_part move ≡ true → step_of move ≡ step.Part
part-step (Part spread) is = refl
part-step (Layers k) is = absurd (cc is)

module _ (s : Spreading) (spread : IsSpread s) (i : ℕ) (home latest : Round) (bases : Drawn) (numbers : List (List ℕ)) (rounds : List Round) (is : IsStepOf s i home latest bases numbers rounds) where
  abbrev task : Task
  task = task_view s.task.now

  all-bases : length bases.bases ≡ task.plan.ranks
  unfolding number_asks
  all-bases =
      ap (λ (d : Drawn). length d.bases) is.bases_are ∙ length-map latest.got _
      ∙ sym (length-map latest.got (length {A = ℕ})) ∙ ap length is.latest_is.legal.fetched ∙ length-map latest.asks (length {A = Ask}) ∙ ap length is.latest_is.asks ∙ length-map (below task.plan.ranks) _ ∙ length-below task.plan.ranks

  numbers-are : numbers ≡ numbers_by task.mesh task.plan bases.bases
  numbers-are = is.numbers_are ∙ ap (λ (d : Drawn). numbers_by task.mesh task.plan d.bases) (sym is.bases_are)

  legal-shown : AllByRecursion IsLegal rounds
  legal-shown = subst (AllByRecursion IsLegal) (sym is.rounds_are) (all_append IsLegal (if i == 0 then home ∷ [] else []) (latest ∷ []) (first (i == 0)) (is.latest_is.legal, tt))
    where
      first : (b : Bool) → AllByRecursion IsLegal (if b then home ∷ [] else [])
      first true = (is.home_is.legal, tt)
      first false = tt

  pub can-print : CanPrint (printed_at s i bases numbers rounds)
  can-print = record { ranks = fits-ranks task s.dist bases.bases numbers s.trace spread.whole.dist all-bases numbers-are spread.trace; rounds = legal-shown }

  once : IsSpreadOnce task.mesh task.plan
  once = built-once task spread.built

  module _ (low : i < length (states task.mesh task.plan)) where
    at : IsPartAfter (first_ranks task.mesh task.plan) i (state_at (printed s) i)
    at = subst (λ k. IsPartAfter (first_ranks task.mesh task.plan) k (state_at (printed s) i)) (let e : 0 + i ≡ i = omega arith in e)
        (part-at (first_ranks task.mesh task.plan) 0 (states task.mesh task.plan) i before_any_step (once-after task.mesh task.plan once) low)

    rounds-same : rounds ≡ rounds_of (state_at (printed s) i) home latest
    rounds-same = is.rounds_are ∙ (λ j. (if (same-test i ∙ ap (λ n. n == 1) (sym at.steps)) j then home ∷ [] else []) ++ (if sym at.alike.part j then latest ∷ [] else []))

    is-printed : IsPrinted (printed s) (state_at (printed s) i) home latest (printed_at s i bases numbers rounds)
    is-printed = record {
      dist = coe 1 0 (j. IsDist s.dist task.mesh (counts_of task.plan.dofs) (at.alike.ranks j) task.plan.ranks (at.alike.layers j)) spread.whole.dist;
      accepted = spread.whole.even;
      fits = spread.whole.fits;
      place = omega (arith, at.steps);
      step = sym (part-step (state_at (printed s) i).move at.alike.part);
      bases = ap (λ (d : Drawn). d.bases) is.bases_are;
      numbers = is.numbers_are ∙ (λ j. held_numbers task.mesh (sym at.alike.ranks j) task.plan.ranks (sym at.alike.layers j) (bases_of latest));
      trace = spread.trace ∙ (λ j. migration_forest task.mesh (first_ranks task.mesh task.plan) (sym at.alike.ranks j) task.plan.ranks);
      home_tag = is.home_is.tag;
      number_tag = is.latest_is.tag;
      rounds = rounds-same;
      show = refl;
    }

    -- what is printed are the lines of the headline
    pub lines-same : plain_step (printed_at s i bases numbers rounds) ≡ step_lines (printed s) (state_at (printed s) i) home latest
    lines-same = step-text (printed s) (state_at (printed s) i) home latest (printed_at s i bases numbers rounds) is-printed

-- ---- the head

pub later-empty : (x : Subject) (i : ℕ) → 0 < i → [] ≡ before_step x i
later-empty x i later = sym (ap (λ b. if b then full_head x.mesh x.plan.dofs x.plan.ranks else []) (not-same i 0 (λ e. omega (arith, e, later))))

pub first-head : (x : Subject) (i : ℕ) → i ≤ 0 → full_head x.mesh x.plan.dofs x.plan.ranks ≡ before_step x i
first-head x i first = sym (ap (λ b. if b then full_head x.mesh x.plan.dofs x.plan.ranks else []) (eq-eqb i 0 (omega (arith, first))))
