-- What the first part of a plan that fits assigns.
use Rattle.std.proofs.Common.{◌≡◌, ℕ, ◌+◌, ◌*◌, ◌<◌, ◌≤◌, Bool, false, List, [], ◌∷◌, ◌++◌, length, map, get_or, Option, Some, None, refl, sym, ap, ◌∙◌, subst, arith, eqb-true, add-one}
use Rattle.std.specs.Prelude.{option_map, IsSome}
use Rattle.std.specs.List.{AllByRecursion}
use Rattle.std.proofs.lemmas.Bool.{leb-false, not-false}
use Rattle.std.proofs.lemmas.List.{map-append}
use Rattle.std.proofs.Math.Nat.{div-lt_iff_lt-mul, mod-lt, mul-lt-mul_of_pos_right, mul_comm}
use Rattle.std.proofs.lemmas.List.{length-map}
use Rattle.plain_lists.specs.Lists.{below}
use Rattle.plain_lists.proofs.Below.{length-below, below-all}
use Rattle.plain_lists.proofs.Each.{all_at, all_in_flat_map, all_weaker, all_map}
use Rattle.mesh_defs.specs.Mesh.{Mesh}
use Rattle.rank_defs.specs.Ranks.{IsRightAssignment}
use Rattle.input_defs.specs.declared.PlanFault.{PlanFault}
use Rattle.input_defs.specs.Plans.{Plan, Spread, Block, Stripe, Listed, Move, Part, Layers, rank_by, ranks_above, misfits, misfit}
use Rattle.input_defs.specs.States.{assignment, states, states_after, first_ranks, before_any_step}
use Rattle.input_laws.proofs.Causes.{first_cause-none}
use Rattle.plan_reader.specs.Drafts.{spread_at}

-- no rank of a list is past the last one
each_below : (ranks line : ℕ) (each : List ℕ) → AllByRecursion (λ (c : Bool × PlanFault). c.0 ≡ false) (ranks_above ranks line each) → AllByRecursion (λ rank. rank < ranks) each
each_below ranks line [] h = tt
each_below ranks line (rank ∷ others) h = (leb-false ranks rank h.0, each_below ranks line others h.1)

rank_by-below : (ranks cells line : ℕ) (spread : Spread) (cell : ℕ) → 1 ≤ ranks → AllByRecursion (λ (c : Bool × PlanFault). c.0 ≡ false) (misfits ranks cells (line, Part spread)) → cell < cells → rank_by ranks spread cell cells < ranks
unfolding rank_by misfits
rank_by-below ranks cells line Block cell some h below = (div-lt_iff_lt-mul (omega (arith, below))).1 (subst (λ t. cell * ranks < t) (mul_comm cells ranks) (mul-lt-mul_of_pos_right below some))
rank_by-below ranks cells line Stripe cell some h below = mod-lt cell some
rank_by-below ranks cells line (Listed each) cell some h below = all_at (λ rank. rank < ranks) each cell 0 (each_below ranks line each h.1) (omega (arith, below, eqb-true (length each) cells (not-false _ h.0)))

-- the first of some moves, and how it spreads
pub record Begins (moves : List (ℕ × Move)) (spread : Spread) : Type 0 where
  pub line : ℕ
  pub others : List (ℕ × Move)
  pub is : moves ≡ (line, Part spread) ∷ others

pub begins : (moves : List (ℕ × Move)) (spread : Spread) → spread_at moves 0 ≡ Some spread → Begins moves spread
begins [] spread e = absurd (cc e)
begins ((line, Part s) ∷ moves) spread e = let same : s ≡ spread = cc e in record { line = line; others = moves; is = λ i. (line, Part (same i)) ∷ moves }
begins ((line, Layers k) ∷ moves) spread e = absurd (cc e)

module _ (m : Mesh) (plan : Plan) (spread : Spread) (first : Begins plan.moves spread) where
  -- the first ranks are those of the first part
  pub first-are : first_ranks m plan ≡ assignment plan.ranks (length m.cells) spread
  unfolding first_ranks states
  first-are = ap (λ moves. (get_or (states_after plan.ranks (length m.cells) before_any_step (map (λ (move : ℕ × Move). move.1) moves)) 0 before_any_step).ranks) first.is

  pub first-right : 1 ≤ plan.ranks → plan.ranks ≤ 64 → misfit plan (length m.cells) ≡ None → IsRightAssignment m plan.ranks (assignment plan.ranks (length m.cells) spread)
  unfolding misfit
  first-right some few fits = record {
    some_rank = some;
    few_ranks = few;
    each = record {
      count = length-map (below (length m.cells)) (λ c. rank_by plan.ranks spread c (length m.cells)) ∙ length-below (length m.cells);
      in_range = all_map (λ r. r < plan.ranks) (λ c. rank_by plan.ranks spread c (length m.cells)) (below (length m.cells))
          (all_weaker (λ c. c < length m.cells) (λ c. rank_by plan.ranks spread c (length m.cells) < plan.ranks) (λ c low. rank_by-below plan.ranks (length m.cells) first.line spread c some own low) (below (length m.cells)) (below-all (length m.cells)));
    };
  }
    where
      own : AllByRecursion (λ (c : Bool × PlanFault). c.0 ≡ false) (misfits plan.ranks (length m.cells) (first.line, Part spread))
      own = (subst (λ moves. AllByRecursion (λ (move : ℕ × Move). AllByRecursion (λ (c : Bool × PlanFault). c.0 ≡ false) (misfits plan.ranks (length m.cells) move)) moves) first.is
          (all_in_flat_map (λ (c : Bool × PlanFault). c.0 ≡ false) (misfits plan.ranks (length m.cells)) plan.moves (first_cause-none _ fits))).0

-- one cell more
pub assigned-more : (ranks cells c rank : ℕ) (spread : Spread) (spreads : Option Spread) → spreads ≡ Some spread → option_map (λ s. rank_by ranks s c cells) spreads ≡ Some rank
    → map (λ k. rank_by ranks spread k cells) (below (c + 1)) ≡ map (λ k. rank_by ranks spread k cells) (below c) ++ rank ∷ []
assigned-more ranks cells c rank spread spreads is told =
    let own : rank_by ranks spread c cells ≡ rank = cc (sym (ap (option_map (λ s. rank_by ranks s c cells)) is) ∙ told) in
    ap (λ n. map (λ k. rank_by ranks spread k cells) (below n)) (add-one c) ∙ map-append (λ k. rank_by ranks spread k cells) (below c) (c ∷ []) ∙ ap (λ r. map (λ k. rank_by ranks spread k cells) (below c) ++ r ∷ []) own

-- the spread of the first part, where there is one
pub spread-is : (spreads : Option Spread) → IsSome spreads → (spread : Spread) × (spreads ≡ Some spread)
spread-is None some = absurd (cc some)
spread-is (Some spread) some = (spread, refl)
