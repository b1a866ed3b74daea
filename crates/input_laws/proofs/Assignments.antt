-- The steps of a plan that fits a mesh assign its cells rightly.
use Rattle.std.proofs.Common.{◌≡◌, ℕ, ◌<◌, true, List, [], ◌∷◌, map, length, get_or, None, Ok, ◌∙◌}
use Rattle.std.specs.Prelude.{Contains}
use Rattle.std.specs.List.{list_any, AllByRecursion}
use Rattle.std.proofs.lemmas.List.{length-map}
use Rattle.std.proofs.lemmas.List.Elements.{All-contains_itself, recursion_from_All}
use Rattle.plain_lists.specs.Lists.{below}
use Rattle.plain_lists.proofs.Each.{all_weaker, all_map, all_contained}
use Rattle.plain_lists.proofs.Below.{length-below, below-all}
use Rattle.mesh_defs.specs.Mesh.{Mesh}
use Rattle.rank_defs.specs.Ranks.{IsRightAssignment}
use Rattle.input_defs.specs.Plans.{Plan, Spread, Move, Part, Layers, is_part, rank_by, plan_of, misfit}
use Rattle.input_defs.specs.States.{State, assignment, after_move, states_after, before_any_step, states, first_ranks}
use Rattle.input_laws.proofs.ReadPlans.{BeginsWithPart, plan-read}
use Rattle.input_laws.proofs.Ranks.{rank-below}

-- ---- one state after another

module _ (m : Mesh) (n : ℕ) where
  -- a step that is a part assigns rightly
  Assigns : ℕ × Move → Type 0
  Assigns (line, Part spread) = IsRightAssignment m n (assignment n (length m.cells) spread)
  Assigns (line, Layers k) = Unit {0}

  states-right : (s : State) → IsRightAssignment m n s.ranks → (moves : List (ℕ × Move)) → AllByRecursion Assigns moves
      → AllByRecursion (λ (t : State). IsRightAssignment m n t.ranks) (states_after n (length m.cells) s (map (λ (move : ℕ × Move). move.1) moves))
  unfolding Assigns
  states-right s right [] all = tt
  states-right s right ((line, Part spread) ∷ moves) all = (all.0, states-right (after_move n (length m.cells) s (Part spread)) all.0 moves all.1)
  states-right s right ((line, Layers k) ∷ moves) all = (right, states-right (after_move n (length m.cells) s (Layers k)) right moves all.1)

  -- from the beginning, where the first step is a part
  all-right : (moves : List (ℕ × Move)) → BeginsWithPart moves → AllByRecursion Assigns moves
      → AllByRecursion (λ (t : State). IsRightAssignment m n t.ranks) (states_after n (length m.cells) before_any_step (map (λ (move : ℕ × Move). move.1) moves))
  unfolding Assigns BeginsWithPart
  all-right [] begins all = tt
  all-right ((line, Part spread) ∷ moves) begins all = (all.0, states-right (after_move n (length m.cells) before_any_step (Part spread)) all.0 moves all.1)
  all-right ((line, Layers k) ∷ moves) begins all = absurd begins

  first-right : (moves : List (ℕ × Move)) → BeginsWithPart moves → list_any (λ (x : ℕ × Move). is_part x.1) moves ≡ true → AllByRecursion Assigns moves
      → IsRightAssignment m n (get_or (states_after n (length m.cells) before_any_step (map (λ (move : ℕ × Move). move.1) moves)) 0 before_any_step).ranks
  unfolding Assigns BeginsWithPart
  first-right [] begins some all = absurd (cc some)
  first-right ((line, Part spread) ∷ moves) begins some all = all.0
  first-right ((line, Layers k) ∷ moves) begins some all = absurd begins

-- ---- the steps of a plan

module _ (bytes : List ℕ) (plan : Plan) (m : Mesh) (read : plan_of bytes ≡ Ok plan) (fits : misfit plan (length m.cells) ≡ None) where
  part-assigns : (line : ℕ) (spread : Spread) → Contains plan.moves (line, Part spread) → IsRightAssignment m plan.ranks (assignment plan.ranks (length m.cells) spread)
  part-assigns line spread there = let has = plan-read bytes plan read in record {
    some_rank = has.some_rank;
    few_ranks = has.few_ranks;
    each = record {
      count = length-map (below (length m.cells)) (λ c. rank_by plan.ranks spread c (length m.cells)) ∙ length-below (length m.cells);
      in_range = all_map (λ r. r < plan.ranks) (λ c. rank_by plan.ranks spread c (length m.cells)) (below (length m.cells))
          (all_weaker (λ c. c < length m.cells) (λ c. rank_by plan.ranks spread c (length m.cells) < plan.ranks) (λ c low. rank-below bytes plan (length m.cells) line spread c read fits there low) (below (length m.cells)) (below-all (length m.cells)));
    };
  }

  moves-assign : AllByRecursion (Assigns m plan.ranks) plan.moves
  unfolding Assigns
  moves-assign = all_weaker (Contains plan.moves) (Assigns m plan.ranks) each plan.moves (recursion_from_All (Contains plan.moves) plan.moves (All-contains_itself plan.moves))
    where
      each : (move : ℕ × Move) → Contains plan.moves move → Assigns m plan.ranks move
      each (line, Part spread) there = part-assigns line spread there
      each (line, Layers k) there = tt

  -- each step assigns rightly
  pub steps-right : (s : State) → Contains (states m plan) s → IsRightAssignment m plan.ranks s.ranks
  unfolding states
  steps-right s there = all_contained (λ (t : State). IsRightAssignment m plan.ranks t.ranks) (states_after plan.ranks (length m.cells) before_any_step (map (λ (move : ℕ × Move). move.1) plan.moves)) s (all-right m plan.ranks plan.moves (plan-read bytes plan read).begins moves-assign) there

  -- so does the first part
  pub first_part-right : IsRightAssignment m plan.ranks (first_ranks m plan)
  unfolding states first_ranks
  first_part-right = first-right m plan.ranks plan.moves (plan-read bytes plan read).begins (plan-read bytes plan read).some_part moves-assign
