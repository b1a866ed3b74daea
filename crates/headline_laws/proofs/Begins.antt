-- What is known of a text after some first rounds begins the whole text.
use Rattle.std.proofs.Common.{◌≡◌, ◌≢◌, ℕ, ◌+◌, ◌-◌, ◌≤◌, Bool, true, false, cond, ◌==◌, nat_lt, List, [], ◌∷◌, ◌++◌, length, take, Some, None, refl, sym, ap, ◌∙◌, arith, append_assoc, length-append}
use Rattle.std.specs.Prelude.{flat_map}
use Rattle.std.specs.List.{AllByRecursion}
use Rattle.std.proofs.lemmas.Bool.{eqb-true, eqb-false, ltb-false}
use Rattle.std.proofs.lemmas.List.{length-take, append-nil, take-take, nil_from_length}
use Rattle.std.proofs.lemmas.Grind.{flat_map-append}
use Rattle.input_defs.specs.text_defs.Text.{end_line}
use Rattle.sf_defs.specs.Rounds.{Round}
use Rattle.input_defs.specs.Further.{full_head}
use Rattle.input_defs.specs.States.{State, states}
use Rattle.headline_defs.specs.StepText.{Subject, step_text, text_of_steps, whole_text, known_steps, known_text}
use Rattle.headline_laws.proofs.Steps.{step-own}

-- ---- the steps that are known

-- the steps that are not known
later_steps : ℕ → List State → List State
later_steps parts [] = []
later_steps parts (s ∷ steps) = cond (nat_lt parts s.parts) (s ∷ steps) (later_steps parts steps)

-- the steps that are known are the first ones
known-front : (parts : ℕ) (steps : List State) → steps ≡ known_steps parts steps ++ later_steps parts steps
unfolding later_steps
known-front parts [] = refl
known-front parts (s ∷ steps) = go (nat_lt parts s.parts) (known-front parts steps)
  where
    go : (b : Bool) → steps ≡ known_steps parts steps ++ later_steps parts steps → s ∷ steps ≡ cond b [] (s ∷ known_steps parts steps) ++ cond b (s ∷ steps) (later_steps parts steps)
    go true r = refl
    go false r = ap (λ l. s ∷ l) r

-- their parts have drawn their numbers
known-drawn : (parts : ℕ) (steps : List State) → AllByRecursion (λ (s : State). s.parts ≤ parts) (known_steps parts steps)
known-drawn parts [] = tt
known-drawn parts (s ∷ steps) = go (nat_lt parts s.parts) refl (known-drawn parts steps)
  where
    go : (b : Bool) → nat_lt parts s.parts ≡ b → AllByRecursion (λ (t : State). t.parts ≤ parts) (known_steps parts steps) → AllByRecursion (λ (t : State). t.parts ≤ parts) (cond b [] (s ∷ known_steps parts steps))
    go true h r = tt
    go false h r = (ltb-false parts s.parts h, r)

-- steps up to some part have the same text by all rounds as by the first ones
pub same_texts : (x : Subject) (rounds : List Round) (n parts : ℕ) (steps : List State) → parts + 1 ≤ n → AllByRecursion (λ (s : State). s.parts ≤ parts) steps → flat_map (step_text x (take n rounds)) steps ≡ flat_map (step_text x rounds) steps
same_texts x rounds n parts [] h drawn = refl
same_texts x rounds n parts (s ∷ steps) h drawn =
    let within : s.parts + 1 ≤ n = omega (arith, drawn.0) in
    (λ i. step-own x (take n rounds) rounds s (take-take (s.parts + 1) n rounds within) i ++ same_texts x rounds n parts steps h drawn.1 i)

-- ---- the text

module _ (x : Subject) (rounds : List Round) (n : ℕ) where
  -- how many parts have drawn their numbers
  drawn : ℕ
  drawn = length (take n rounds) - 1

  -- the known steps, and those after them
  front : List State
  front = known_steps drawn (states x.mesh x.plan)

  later : List State
  later = later_steps drawn (states x.mesh x.plan)

  -- where a part has drawn its numbers, the known steps have the same text by all rounds
  front-text : drawn ≢ 0 → flat_map (step_text x (take n rounds)) front ≡ flat_map (step_text x rounds) front
  unfolding drawn front
  front-text some = same_texts x rounds n drawn front (omega (arith, some, length-take n rounds)) (known-drawn drawn (states x.mesh x.plan))

  -- the whole text is the known steps, and then the others
  whole-parts : whole_text x rounds ≡ (full_head x.mesh x.plan.dofs x.plan.ranks ++ flat_map (step_text x rounds) front) ++ (flat_map (step_text x rounds) later ++ end_line)
  unfolding whole_text text_of_steps front later
  whole-parts =
      let head = full_head x.mesh x.plan.dofs x.plan.ranks in
      ap (λ steps. (head ++ flat_map (step_text x rounds) steps) ++ end_line) (known-front drawn (states x.mesh x.plan))
      ∙ ap (λ t. (head ++ t) ++ end_line) (flat_map-append (step_text x rounds) front later)
      ∙ simp append_assoc

  -- where all steps are known, the text is whole
  all-known : drawn ≢ 0 → length front ≡ length (states x.mesh x.plan) → whole_text x (take n rounds) ≡ whole_text x rounds
  unfolding whole_text text_of_steps front later
  all-known some all =
      let none : later ≡ [] = nil_from_length later (omega (arith, ap length (known-front drawn (states x.mesh x.plan)), length-append front later)) in
      let same : states x.mesh x.plan ≡ front = known-front drawn (states x.mesh x.plan) ∙ ap (λ l. front ++ l) none ∙ append-nil front in
      ap (λ steps. (full_head x.mesh x.plan.dofs x.plan.ranks ++ flat_map (step_text x (take n rounds)) steps) ++ end_line) same
      ∙ ap (λ t. (full_head x.mesh x.plan.dofs x.plan.ranks ++ t) ++ end_line) (front-text some)
      ∙ ap (λ steps. (full_head x.mesh x.plan.dofs x.plan.ranks ++ flat_map (step_text x rounds) steps) ++ end_line) (sym same)

  -- where some steps are left, the text ends with the known ones
  some-known : drawn ≢ 0 → text_of_steps x (take n rounds) front ≡ full_head x.mesh x.plan.dofs x.plan.ranks ++ flat_map (step_text x rounds) front
  unfolding text_of_steps
  some-known some = ap (λ t. full_head x.mesh x.plan.dofs x.plan.ranks ++ t) (front-text some)

  -- what is known once these rounds are kept begins the whole text
  pub known-begins : (text : List ℕ) → known_text x (take n rounds) ≡ Some text → (rest : List ℕ) × (whole_text x rounds ≡ text ++ rest)
  unfolding known_text drawn front
  known-begins text is = go (drawn == 0) (length front == length (states x.mesh x.plan)) refl refl is
    where
      go : (a b : Bool) → (drawn == 0) ≡ a → (length front == length (states x.mesh x.plan)) ≡ b
          → cond a None (Some (cond b (whole_text x (take n rounds)) (text_of_steps x (take n rounds) front))) ≡ Some text → (rest : List ℕ) × (whole_text x rounds ≡ text ++ rest)
      go true b h k e = absurd (cc e)
      go false true h k e =
          let told : whole_text x (take n rounds) ≡ text = cc e in
          ([], sym (all-known (eqb-false drawn 0 h) (eqb-true (length front) (length (states x.mesh x.plan)) k)) ∙ told ∙ sym (append-nil text))
      go false false h k e =
          let told : text_of_steps x (take n rounds) front ≡ text = cc e in
          (flat_map (step_text x rounds) later ++ end_line, whole-parts ∙ ap (λ t. t ++ (flat_map (step_text x rounds) later ++ end_line)) (sym (some-known (eqb-false drawn 0 h)) ∙ told))
