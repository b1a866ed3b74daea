-- Plans that spread a mesh once: which they are, what stands after their steps, and the rounds that are due.
use Rattle.std.proofs.Common.{◌≡◌, ◌⊎◌, ℕ, zero, suc, ◌+◌, ◌<◌, ◌≤◌, true, List, [], ◌∷◌, map, length, get_or, None, Ok, refl, sym, ap, ◌∙◌, subst, arith, inl, inr}
use Rattle.std.specs.Prelude.{Contains}
use Rattle.std.specs.List.{AllByRecursion, list_any}
use Rattle.std.proofs.lemmas.List.{length-map}
use Rattle.std.proofs.lemmas.List.Elements.{All-contains_itself, recursion_from_All}
use Rattle.plain_lists.proofs.Each.{all_both, all_weaker}
use Rattle.plain_lists.proofs.Filters.{filter_whole}
use Rattle.mesh_defs.specs.Mesh.{Mesh}
use Rattle.sf_defs.specs.Rounds.{Round}
use Rattle.rank_defs.specs.Ranks.{IsRightAssignment}
use Rattle.rank_defs.specs.Home.{IsNumberRound}
use Rattle.input_defs.specs.Plans.{Plan, Move, Part, Layers, is_part, plan_of, misfit}
use Rattle.input_defs.specs.Refused.{Task}
use Rattle.input_defs.specs.States.{State, states, states_after, after_move, before_any_step, first_ranks}
use Rattle.input_laws.proofs.ReadPlans.{plan-read}
use Rattle.input_laws.proofs.Assignments.{steps-right, first_part-right}
use Rattle.headline_defs.specs.Rounds.{Due, Keys, Numbers, due, AreFirst, AreAll}
use Rattle.plex_job.specs.job_task.Reading.{IsBuilt}
use Rattle.plex_job.specs.Once.{IsPartBy, IsSpreadOnce, IsHome, IsDrawn}
use Rattle.plex_job.proofs.OneRank.{assigned-one}

-- ---- how many steps there are

length-after : (ranks cells : ℕ) (s : State) (moves : List Move) → length (states_after ranks cells s moves) ≡ length moves
length-after ranks cells s [] = refl
length-after ranks cells s (move ∷ moves) = ap (λ k. suc k) (length-after ranks cells (after_move ranks cells s move) moves)

-- there is a state for each move
pub states-count : (m : Mesh) (plan : Plan) → length (states m plan) ≡ length plan.moves
unfolding states
states-count m plan = length-after plan.ranks (length m.cells) before_any_step (map (λ (move : ℕ × Move). move.1) plan.moves) ∙ length-map plan.moves (λ (move : ℕ × Move). move.1)

-- there is a first step
some-step : (bytes : List ℕ) (plan : Plan) (m : Mesh) → plan_of bytes ≡ Ok plan → 1 ≤ length (states m plan)
some-step bytes plan m read = go plan.moves refl (plan-read bytes plan read).some_part
  where
    go : (moves : List (ℕ × Move)) → plan.moves ≡ moves → list_any (λ (x : ℕ × Move). is_part x.1) moves ≡ true → 1 ≤ length (states m plan)
    go [] is some = absurd (cc some)
    go (move ∷ moves) is some = omega (arith, states-count m plan, ap length is)

-- ---- plans that spread a mesh once

-- a part, after which no layers stand
abbrev IsPlainPart : State → Type 0
IsPlainPart s = (s.layers ≡ 0) × (is_part s.move ≡ true)

parts-after : (ranks cells : ℕ) (s : State) (moves : List (ℕ × Move)) → AllByRecursion (λ (move : ℕ × Move). is_part move.1 ≡ true) moves → AllByRecursion IsPlainPart (states_after ranks cells s (map (λ (move : ℕ × Move). move.1) moves))
parts-after ranks cells s [] all = tt
parts-after ranks cells s ((line, Part spread) ∷ moves) all = ((refl, refl), parts-after ranks cells (after_move ranks cells s (Part spread)) moves all.1)
parts-after ranks cells s ((line, Layers k) ∷ moves) all = absurd (cc all.0)

-- of a list of one each element is the first
the-first : {X : Type 0} (xs : List X) (d x : X) → length xs ≡ 1 → Contains xs x → x ≡ get_or xs 0 d
the-first [] d x one (k, low, is) = absurd (omega (arith, low))
the-first (y ∷ []) d x one (zero, low, is) = sym is
the-first (y ∷ []) d x one (suc k, low, is) = absurd (omega (arith, low))
the-first (y ∷ z ∷ xs) d x one there = absurd (omega (arith, one))

-- a plan of parts that fits the mesh
module _ (bytes : List ℕ) (plan : Plan) (m : Mesh) (read : plan_of bytes ≡ Ok plan) (fits : misfit plan (length m.cells) ≡ None) (parts : AllByRecursion (λ (move : ℕ × Move). is_part move.1 ≡ true) plan.moves) where
  plain-parts : AllByRecursion IsPlainPart (states m plan)
  unfolding states
  plain-parts = parts-after plan.ranks (length m.cells) before_any_step plan.moves parts

  once-alike : ((s : State) → Contains (states m plan) s → s.ranks ≡ first_ranks m plan) → IsSpreadOnce m plan
  once-alike alike = record {
    some = some-step bytes plan m read;
    right = first_part-right bytes plan m read fits;
    steps = all_both (Contains (states m plan)) IsPlainPart (IsPartBy (first_ranks m plan)) (λ s there is. record { ranks = alike s there; layers = is.0; part = is.1 }) (states m plan)
        (recursion_from_All (Contains (states m plan)) (states m plan) (All-contains_itself (states m plan))) plain-parts;
  }

  -- on one rank it spreads the mesh once
  pub once-on-one-rank : plan.ranks ≡ 1 → IsSpreadOnce m plan
  once-on-one-rank one = once-alike (λ s there. assigned-one m s.ranks (first_ranks m plan)
      (subst (λ n. IsRightAssignment m n s.ranks) one (steps-right bytes plan m read fits s there))
      (subst (λ n. IsRightAssignment m n (first_ranks m plan)) one (first_part-right bytes plan m read fits)))

  -- so does a plan of one part, on any number of ranks
  pub once-by-one-part : length plan.moves ≡ 1 → IsSpreadOnce m plan
  unfolding first_ranks
  once-by-one-part one = once-alike (λ s there. ap (λ (t : State). t.ranks) (the-first (states m plan) before_any_step s (states-count m plan ∙ one) there))

-- the plan of a task that is built
pub built-once : (t : Task) → IsBuilt t → IsSpreadOnce t.mesh t.plan
built-once t built = go built.plan.single
  where
    go : (t.plan.ranks ≡ 1) ⊎ (length t.plan.moves ≡ 1) → IsSpreadOnce t.mesh t.plan
    go (inl one) = once-on-one-rank built.bytes t.plan t.mesh built.said built.fits built.plan.parts one
    go (inr one) = once-by-one-part built.bytes t.plan t.mesh built.said built.fits built.plan.parts one

-- ---- what stands after the steps

-- what stands after a part by this assignment, before which n steps were done, each a part
pub record IsPartAfter (a : List ℕ) (n : ℕ) (s : State) : Type 0 where
  pub alike : IsPartBy a s
  pub steps : s.steps ≡ n + 1
  pub parts : s.parts ≡ n + 1

-- so do these states one after another
abbrev pub ArePartsAfter : List ℕ → ℕ → List State → Type 0
ArePartsAfter a n [] = Unit {0}
ArePartsAfter a n (s ∷ steps) = IsPartAfter a n s × ArePartsAfter a (n + 1) steps

counted : (a : List ℕ) (ranks cells n : ℕ) (s : State) (moves : List Move) → s.steps ≡ n → s.parts ≡ n → AllByRecursion (IsPartBy a) (states_after ranks cells s moves) → ArePartsAfter a n (states_after ranks cells s moves)
counted a ranks cells n s [] steps parts all = tt
counted a ranks cells n s (Part spread ∷ moves) steps parts all =
    (record { alike = all.0; steps = ap (λ k. k + 1) steps; parts = ap (λ k. k + 1) parts }, counted a ranks cells (n + 1) (after_move ranks cells s (Part spread)) moves (ap (λ k. k + 1) steps) (ap (λ k. k + 1) parts) all.1)
counted a ranks cells n s (Layers k ∷ moves) steps parts all = absurd (cc all.0.part)

pub once-after : (m : Mesh) (plan : Plan) → IsSpreadOnce m plan → ArePartsAfter (first_ranks m plan) 0 (states m plan)
unfolding states
once-after m plan once = counted (first_ranks m plan) plan.ranks (length m.cells) 0 before_any_step (map (λ (move : ℕ × Move). move.1) plan.moves) refl refl once.steps

-- the state at a place
pub part-at : (a : List ℕ) (n : ℕ) (steps : List State) (i : ℕ) (d : State) → ArePartsAfter a n steps → i < length steps → IsPartAfter a (n + i) (get_or steps i d)
part-at a n [] i d after low = absurd (omega (arith, low))
part-at a n (s ∷ steps) zero d after low = subst (λ k. IsPartAfter a k s) (let e : n ≡ n + 0 = omega arith in e) after.0
part-at a n (s ∷ steps) (suc i) d after low = subst (λ k. IsPartAfter a k (get_or steps i d)) (let e : n + 1 + i ≡ n + suc i = omega arith in e) (part-at a (n + 1) steps i d after.1 (omega arith))

-- ---- the rounds that are due

abbrev pub due_number : State → Due
due_number s = Numbers s.ranks

module _ (m : Mesh) (n : ℕ) (a : List ℕ) where
  first-numbers : (steps : List State) (rounds : List Round) → AllByRecursion (IsPartBy a) steps → AllByRecursion (IsNumberRound m a n) rounds → length rounds ≤ length steps → AreFirst m n (map due_number steps) rounds
  first-numbers steps [] all drawn few = tt
  first-numbers [] (r ∷ rounds) all drawn few = absurd (omega (arith, few))
  first-numbers (s ∷ steps) (r ∷ rounds) all drawn few = (subst (λ b. IsNumberRound m b n r) (sym all.0.ranks) drawn.0, first-numbers steps rounds all.1 drawn.1 (omega arith))

  all-numbers : (steps : List State) (rounds : List Round) → AllByRecursion (IsPartBy a) steps → AllByRecursion (IsNumberRound m a n) rounds → length rounds ≡ length steps → AreAll m n (map due_number steps) rounds
  all-numbers [] [] all drawn each = tt
  all-numbers [] (r ∷ rounds) all drawn each = absurd (omega (arith, each))
  all-numbers (s ∷ steps) [] all drawn each = absurd (omega (arith, each))
  all-numbers (s ∷ steps) (r ∷ rounds) all drawn each = (subst (λ b. IsNumberRound m b n r) (sym all.0.ranks) drawn.0, all-numbers steps rounds all.1 drawn.1 (omega (arith, each)))

module _ (m : Mesh) (plan : Plan) (once : IsSpreadOnce m plan) where
  due-is : due m plan ≡ Keys (first_ranks m plan) ∷ map due_number (states m plan)
  unfolding due
  due-is = ap (λ steps. Keys (first_ranks m plan) ∷ map due_number steps)
      (filter_whole (λ (s : State). is_part s.move) (states m plan) (all_weaker (IsPartBy (first_ranks m plan)) (λ (s : State). is_part s.move ≡ true) (λ s is. is.part) (states m plan) once.steps))

  pub due-first : (home : Round) (rounds : List Round) → IsHome m plan home → AllByRecursion (IsDrawn m plan) rounds → length rounds ≤ length (states m plan) → AreFirst m plan.ranks (due m plan) (home ∷ rounds)
  due-first home rounds is drawn few = subst (λ dues. AreFirst m plan.ranks dues (home ∷ rounds)) (sym due-is) (is, first-numbers m plan.ranks (first_ranks m plan) (states m plan) rounds once.steps drawn few)

  pub due-all : (home : Round) (rounds : List Round) → IsHome m plan home → AllByRecursion (IsDrawn m plan) rounds → length rounds ≡ length (states m plan) → AreAll m plan.ranks (due m plan) (home ∷ rounds)
  due-all home rounds is drawn each = subst (λ dues. AreAll m plan.ranks dues (home ∷ rounds)) (sym due-is) (is, all-numbers m plan.ranks (first_ranks m plan) (states m plan) rounds once.steps drawn each)
