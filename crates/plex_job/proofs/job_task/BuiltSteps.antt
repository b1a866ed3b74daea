-- A plan that is built has parts alone, and a single one on two ranks or more.
use Rattle.std.proofs.Common.{◌≡◌, ℕ, ◌≤◌, Bool, true, false, List, [], ◌∷◌, Option, Some, None, Ok, Err, length, refl, sym, ap, ◌∙◌, subst, inl, inr, arith}
use Rattle.std.specs.Prelude.{Result, ◌⊎◌, drop, find, option_map, codes}
use Rattle.std.specs.List.{list_any, AllByRecursion}
use Rattle.std.proofs.lemmas.Bool.{leb-false}
use Rattle.plain_lists.proofs.Each.{all_weaker}
use Rattle.plain_lists.proofs.Finding.{each_fails, find-cases}
use Rattle.input_defs.specs.declared.PlanFault.{PlanFault}
use Rattle.input_defs.specs.declared.PlanFault.TheVariants.{NotYet}
use Rattle.input_defs.specs.declared.Status.TheVariants as status
use Rattle.input_defs.specs.Plans.{Plan, Move, Part, Layers, is_part, plan_of, plain_plan}
use Rattle.input_defs.specs.Ahead.{is_ahead, first_ahead, built_plan}
use Rattle.input_defs.specs.Causes.{unless}
use Rattle.input_defs.specs.Refused.{Refusal, or_refuse, plan_refused}
use Rattle.input_defs.proofs.PlanRows.{plain_plan_in_words}
use Rattle.input_laws.proofs.Causes.{unless-ok, bind-ok}
use Rattle.input_laws.proofs.ReadPlans.{BeginsWithPart, plan-read}
use Rattle.plex_job.specs.job_task.Reading.{HasBuiltSteps, plan_given}

-- what is not found is nowhere
none-found : {X : Type 0} (test : X → Bool) (line : X → ℕ) (xs : List X) → option_map NotYet (option_map line (find test xs)) ≡ None → list_any test xs ≡ false
none-found test line xs none = go (find-cases test xs)
  where
    go : ((x : _) × (find test xs ≡ Some x)) ⊎ (list_any test xs ≡ false) → list_any test xs ≡ false
    go (inl (x, is)) = absurd (cc (sym (ap (λ o. option_map NotYet (option_map line o)) is) ∙ none))
    go (inr fails) = fails

-- a step that is built is a part
built-part : (ranks : ℕ) (move : ℕ × Move) → is_ahead ranks move ≡ false → is_part move.1 ≡ true
built-part ranks (line, Part spread) built = refl
built-part ranks (line, Layers k) built = absurd (cc built)

-- on two ranks or more none is built
none-built : (ranks : ℕ) (move : ℕ × Move) → is_ahead ranks move ≡ false → ranks ≤ 1
none-built ranks (line, Part spread) built = omega (arith, leb-false 2 ranks built)
none-built ranks (line, Layers k) built = absurd (cc built)

-- where all steps after the first one, which is a part, are built
steps-built : (ranks : ℕ) (moves : List (ℕ × Move)) → 1 ≤ ranks → BeginsWithPart moves → list_any (λ (m : ℕ × Move). is_part m.1) moves ≡ true → list_any (is_ahead ranks) (drop 1 moves) ≡ false
    → AllByRecursion (λ (move : ℕ × Move). is_part move.1 ≡ true) moves × ((ranks ≡ 1) ⊎ (length moves ≡ 1))
unfolding BeginsWithPart
steps-built ranks [] some begins part built = absurd (cc part)
steps-built ranks ((line, Layers k) ∷ moves) some begins part built = absurd begins
steps-built ranks ((line, Part spread) ∷ []) some begins part built = ((refl, tt), inr refl)
steps-built ranks ((line, Part spread) ∷ move ∷ moves) some begins part built =
    let each : AllByRecursion (λ (m : ℕ × Move). is_ahead ranks m ≡ false) (move ∷ moves) = each_fails (is_ahead ranks) (move ∷ moves) built in
    let few = none-built ranks move each.0 in
    ((refl, all_weaker (λ (m : ℕ × Move). is_ahead ranks m ≡ false) (λ (m : ℕ × Move). is_part m.1 ≡ true) (built-part ranks) (move ∷ moves) each), inl (omega (arith, some, few)))

built-is : (bytes : List ℕ) (plan : Plan) → plan_of bytes ≡ Ok plan → option_map NotYet (first_ahead plan) ≡ None → HasBuiltSteps plan
unfolding first_ahead
built-is bytes plan said none =
    let read = plan-read bytes plan said in
    let has = steps-built plan.ranks plan.moves read.some_rank read.begins read.some_part (none-found (is_ahead plan.ranks) (λ (move : ℕ × Move). move.0) (drop 1 plan.moves) none) in
    record { parts = has.0; single = has.1; steps = read.few_steps }

abbrev given : Plan → Result Plan Refusal
given plan = Ok plan

-- the plan that is given is one that some bytes say
pub record IsGiven (plan : Plan) : Type 0 where
  pub bytes : List ℕ
  pub said : plan_of bytes ≡ Ok plan
  pub built : HasBuiltSteps plan

said-built : (bytes : List ℕ) (plan : Plan) → built_plan bytes ≡ Ok plan → IsGiven plan
said-built bytes plan h =
    let read = bind-ok (plan_of bytes) (λ p. unless (option_map NotYet (first_ahead p)) p) plan h in
    let fits = unless-ok (option_map NotYet (first_ahead read.0)) read.0 plan read.2 in
    subst IsGiven fits.1 (record { bytes = bytes; said = read.1; built = built-is bytes read.0 read.1 fits.0 })

pub given-built : (file : Option (List ℕ)) (plan : Plan) → plan_given file ≡ Ok plan → IsGiven plan
given-built None plan h =
    let same : plain_plan ≡ plan = cc h in
    subst IsGiven same (record { bytes = codes "ranks 1\npart block\nshow points\n"; said = plain_plan_in_words; built = record { parts = (refl, tt); single = inl refl; steps = omega arith } })
given-built (Some bytes) plan h = go (built_plan bytes) refl h
  where
    go : (o : Result Plan PlanFault) → built_plan bytes ≡ o → or_refuse status.Plan plan_refused o ≡ given plan → IsGiven plan
    go (Ok p) is e = let same : p ≡ plan = cc e in said-built bytes plan (is ∙ ap Ok same)
    go (Err fault) is e = absurd (cc e)
