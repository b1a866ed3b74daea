-- The text grows step by step, and is what is known of the whole.
use Rattle.std.proofs.Common.{◌≡◌, ◌≢◌, ℕ, zero, suc, ◌+◌, ◌-◌, ◌<◌, ◌≤◌, Bool, true, false, cond, if◌then◌else◌, ◌==◌, nat_lt, List, [], ◌∷◌, ◌++◌, length, get_or, take, Some, None, refl, sym, ap, ap₂, ◌∙◌, arith, append_assoc, append-nil, length-append}
use Rattle.std.specs.Prelude.{flat_map}
use Rattle.std.proofs.Math.Dec.{eqb-suc-zero}
use Rattle.std.proofs.lemmas.Bool.{eqb-true, eq-eqb, lt-ltb, le-ltb}
use Rattle.std.proofs.lemmas.List.{length-take, take_more, take_all}
use Rattle.std.proofs.lemmas.Grind.{flat_map-append}
use Rattle.input_defs.specs.text_defs.Text.{end_line}
use Rattle.sf_defs.specs.Rounds.{Round}
use Rattle.input_defs.specs.Further.{full_head}
use Rattle.input_defs.specs.States.{State, states, first_ranks, before_any_step}
use Rattle.headline_defs.specs.StepText.{Subject, step_lines, step_text, number_round, text_of_steps, whole_text, known_steps, known_text}
use Rattle.headline_laws.proofs.Steps.{step-own}
use Rattle.plex_job.specs.Once.{IsSpreadOnce, state_at}
use Rattle.plex_job.specs.Begun.{before_step, begun, known}
use Rattle.plex_job.proofs.Once.{ArePartsAfter, once-after, part-at}

-- ---- lists

take-front : {X : Type 0} (n : ℕ) (xs ys : List X) → n ≤ length xs → take n (xs ++ ys) ≡ take n xs
take-front zero xs ys low = refl
take-front (suc n) [] ys low = absurd (omega (arith, low))
take-front (suc n) (x ∷ xs) ys low = ap (λ l. x ∷ l) (take-front n xs ys (omega arith))

get-last : {X : Type 0} (xs : List X) (y d : X) (n : ℕ) → n ≡ length xs → get_or (xs ++ y ∷ []) n d ≡ y
get-last [] y d zero h = refl
get-last [] y d (suc n) h = absurd (omega (arith, h))
get-last (x ∷ xs) y d zero h = absurd (omega (arith, h))
get-last (x ∷ xs) y d (suc n) h = get-last xs y d n (omega (arith, h))

-- ---- steps that have their rounds

module _ (x : Subject) where
  -- more rounds change no step up to those that are there
  same-lines : (rounds : List Round) (r : Round) (a : List ℕ) (n k : ℕ) (steps : List State) → ArePartsAfter a n steps → n + k + 1 ≤ length rounds
      → flat_map (step_text x (rounds ++ r ∷ [])) (take k steps) ≡ flat_map (step_text x rounds) (take k steps)
  same-lines rounds r a n zero steps after low = refl
  same-lines rounds r a n (suc k) [] after low = refl
  same-lines rounds r a n (suc k) (s ∷ steps) after low =
      let within : s.parts + 1 ≤ length rounds = omega (arith, after.0.parts, low) in
      ap₂ (λ a b. a ++ b) (step-own x (rounds ++ r ∷ []) rounds s (take-front (s.parts + 1) rounds (r ∷ []) within)) (same-lines rounds r a (n + 1) k steps after.1 (omega (arith, low)))

  module _ (once : IsSpreadOnce x.mesh x.plan) (home : Round) where
    -- the lines of the step that the last of these rounds belongs to
    last-lines : (rounds : List Round) (r : Round) (i : ℕ) → length rounds ≡ i → i < length (states x.mesh x.plan) → step_text x (home ∷ rounds ++ r ∷ []) (state_at x i) ≡ step_lines x (state_at x i) home r
    last-lines rounds r i many low =
        let parts = (part-at (first_ranks x.mesh x.plan) 0 (states x.mesh x.plan) i before_any_step (once-after x.mesh x.plan once) low).parts in
        let place : (state_at x i).parts ≡ suc i = parts ∙ omega arith in
        ap (step_lines x (state_at x i) home) (ap (λ k. number_round (record (state_at x i) { parts = k }) (home ∷ rounds ++ r ∷ [])) place ∙ get-last rounds r _ i (sym many))

    -- the text with one more round
    pub begun-next : (rounds : List Round) (r : Round) (i : ℕ) → length rounds ≡ i → i < length (states x.mesh x.plan)
        → begun x home (rounds ++ r ∷ []) ≡ begun x home rounds ++ (before_step x i ++ step_lines x (state_at x i) home r)
    unfolding begun text_of_steps
    begun-next [] r i many low =
        let steps = states x.mesh x.plan in
        let head = full_head x.mesh x.plan.dofs x.plan.ranks in
        let first : take 1 steps ≡ get_or steps 0 before_any_step ∷ [] = take_more steps 0 before_any_step (omega (arith, many)) in
        let front : before_step x i ≡ head = ap (λ b. cond b head []) (eq-eqb i 0 (sym many)) in
        ap (λ l. head ++ flat_map (step_text x (home ∷ r ∷ [])) l) first
        ∙ ap (λ t. head ++ t) (append-nil (step_text x (home ∷ r ∷ []) (state_at x 0)) ∙ last-lines [] r 0 refl (omega (arith, many)))
        ∙ (λ j. sym front j ++ step_lines x (state_at x (many j)) home r)
    begun-next (q ∷ rounds) r i many low =
        let steps = states x.mesh x.plan in
        let head = full_head x.mesh x.plan.dofs x.plan.ranks in
        let old = home ∷ q ∷ rounds in
        let count : length (q ∷ rounds ++ r ∷ []) ≡ i + 1 = omega (arith, many, length-append (q ∷ rounds) (r ∷ [])) in
        let nonzero : i ≢ 0 = omega (arith, many) in
        let none : before_step x i ≡ [] = ap (λ b. cond b head []) (not_zero i nonzero) in
        let same : flat_map (step_text x (old ++ r ∷ [])) (take i steps) ≡ flat_map (step_text x old) (take i steps) = same-lines old r (first_ranks x.mesh x.plan) 0 i steps (once-after x.mesh x.plan once) (omega (arith, many)) in
        let lines : step_text x (old ++ r ∷ []) (state_at x i) ≡ step_lines x (state_at x i) home r = last-lines (q ∷ rounds) r i many low in
        ap (λ k. head ++ flat_map (step_text x (old ++ r ∷ [])) (take k steps)) count
        ∙ ap (λ l. head ++ flat_map (step_text x (old ++ r ∷ [])) l) (take_more steps i before_any_step low)
        ∙ ap (λ t. head ++ t) (flat_map-append (step_text x (old ++ r ∷ [])) (take i steps) (state_at x i ∷ []))
        ∙ (λ j. head ++ (same j ++ append-nil (lines j) j))
        ∙ sym (append_assoc head (flat_map (step_text x old) (take i steps)) (step_lines x (state_at x i) home r))
        ∙ (λ j. (head ++ flat_map (step_text x old) (take (sym many j) steps)) ++ (sym none j ++ step_lines x (state_at x i) home r))
      where
        not_zero : (k : ℕ) → k ≢ 0 → (k == 0) ≡ false
        not_zero zero h = absurd (h refl)
        not_zero (suc k) h = eqb-suc-zero k

-- ---- what is known

known-front : (a : List ℕ) (n k : ℕ) (steps : List State) → ArePartsAfter a n steps → known_steps (n + k) steps ≡ take k steps
known-front a n zero [] after = refl
known-front a n (suc k) [] after = refl
known-front a n zero (s ∷ steps) after =
    let later : nat_lt (n + 0) s.parts ≡ true = lt-ltb (n + 0) s.parts (omega (arith, after.0.parts)) in
    ap (λ b. cond b [] (s ∷ known_steps (n + 0) steps)) later
known-front a n (suc k) (s ∷ steps) after =
    let there : nat_lt (n + suc k) s.parts ≡ false = le-ltb (n + suc k) s.parts (omega (arith, after.0.parts)) in
    let place : n + suc k ≡ n + 1 + k = omega arith in
    ap (λ b. cond b [] (s ∷ known_steps (n + suc k) steps)) there ∙ ap (λ j. s ∷ known_steps j steps) place ∙ ap (λ l. s ∷ l) (known-front a (n + 1) k steps after.1)

module _ (x : Subject) (once : IsSpreadOnce x.mesh x.plan) (home r : Round) (rounds : List Round) where
  -- the text where each step has its round
  pub whole-known : length (r ∷ rounds) ≡ length (states x.mesh x.plan) → whole_text x (home ∷ r ∷ rounds) ≡ known x home (r ∷ rounds)
  unfolding whole_text known begun
  whole-known all =
      let steps = states x.mesh x.plan in
      let every : take (length (r ∷ rounds)) steps ≡ steps = take_all (length (r ∷ rounds)) steps (omega (arith, all)) in
      (λ i. text_of_steps x (home ∷ r ∷ rounds) (sym every i) ++ (if sym (eq-eqb (length (r ∷ rounds)) (length steps) all) i then end_line else []))

  -- where a round is there, the text so far is what is known
  pub text-known : length (r ∷ rounds) ≤ length (states x.mesh x.plan) → known_text x (home ∷ r ∷ rounds) ≡ Some (known x home (r ∷ rounds))
  unfolding known_text known begun
  text-known few =
      let steps = states x.mesh x.plan in
      let n = length (r ∷ rounds) in
      let parts : length (home ∷ r ∷ rounds) - 1 ≡ n = omega arith in
      let nonzero : (length (home ∷ r ∷ rounds) - 1 == 0) ≡ false = ap (λ k. k == 0) parts ∙ eqb-suc-zero (length rounds) in
      let front : known_steps (length (home ∷ r ∷ rounds) - 1) steps ≡ take n steps = ap (λ k. known_steps k steps) (parts ∙ omega arith) ∙ known-front (first_ranks x.mesh x.plan) 0 n steps (once-after x.mesh x.plan once) in
      let many : length (take n steps) ≡ n = omega (arith, length-take n steps, few) in
      (λ i. if nonzero i then None else Some (if length (front i) == length steps then whole_text x (home ∷ r ∷ rounds) else text_of_steps x (home ∷ r ∷ rounds) (front i)))
      ∙ (λ i. Some (if many i == length steps then whole_text x (home ∷ r ∷ rounds) else text_of_steps x (home ∷ r ∷ rounds) (take n steps)))
      ∙ ap Some (closed (n == length steps) refl)
    where
      closed : (b : Bool) → (length (r ∷ rounds) == length (states x.mesh x.plan)) ≡ b
          → (if b then whole_text x (home ∷ r ∷ rounds) else text_of_steps x (home ∷ r ∷ rounds) (take (length (r ∷ rounds)) (states x.mesh x.plan))) ≡ known x home (r ∷ rounds)
      closed true is = whole-known (eqb-true _ _ is)
      closed false is = sym (append-nil _) ∙ ap (λ b. text_of_steps x (home ∷ r ∷ rounds) (take (length (r ∷ rounds)) (states x.mesh x.plan)) ++ (if b then end_line else [])) (sym is)
