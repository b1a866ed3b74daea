-- The rank of a cell is a rank of the plan, where the plan fits.
use Rattle.std.proofs.Common.{◌≡◌, ℕ, ◌*◌, ◌<◌, ◌≤◌, Bool, false, List, [], ◌∷◌, None, Ok, length, get_or, subst, arith, eqb-true}
use Rattle.std.specs.Prelude.{Contains}
use Rattle.std.specs.List.{AllByRecursion}
use Rattle.std.proofs.lemmas.Bool.{leb-false, not-false}
use Rattle.std.proofs.Math.Nat.{div-lt_iff_lt-mul, mod-lt, mul-lt-mul_of_pos_right, mul_comm}
use Rattle.plain_lists.proofs.Each.{all_at, all_in_flat_map, all_contained}
use Rattle.input_defs.specs.declared.PlanFault.{PlanFault}
use Rattle.input_defs.specs.Plans.{Plan, Spread, Block, Stripe, Listed, Part, plan_of, rank_by, ranks_above, misfits, misfit}
use Rattle.input_laws.proofs.Causes.{first_cause-none}
use Rattle.input_laws.proofs.ReadPlans.{plan-read}

-- ---- the rank of a cell

-- no rank of a list is past the last one
each_below : (ranks line : ℕ) (each : List ℕ) → AllByRecursion (λ (c : Bool × PlanFault). c.0 ≡ false) (ranks_above ranks line each) → AllByRecursion (λ rank. rank < ranks) each
each_below ranks line [] h = tt
each_below ranks line (rank ∷ others) h = (leb-false ranks rank h.0, each_below ranks line others h.1)

at_place : (ranks : ℕ) (each : List ℕ) (cell : ℕ) → AllByRecursion (λ rank. rank < ranks) each → cell < length each → get_or each cell 0 < ranks
at_place ranks each cell all below = all_at (λ rank. rank < ranks) each cell 0 all below

rank_by-below : (ranks cells line : ℕ) (spread : Spread) (cell : ℕ) → 1 ≤ ranks → AllByRecursion (λ (c : Bool × PlanFault). c.0 ≡ false) (misfits ranks cells (line, Part spread)) → cell < cells → rank_by ranks spread cell cells < ranks
unfolding rank_by misfits
rank_by-below ranks cells line Block cell some h below = (div-lt_iff_lt-mul (omega (arith, below))).1 (subst (λ t. cell * ranks < t) (mul_comm cells ranks) (mul-lt-mul_of_pos_right below some))
rank_by-below ranks cells line Stripe cell some h below = mod-lt cell some
rank_by-below ranks cells line (Listed each) cell some h below = at_place ranks each cell (each_below ranks line each h.1) (omega (arith, below, eqb-true (length each) cells (not-false _ h.0)))

-- the rank of a cell is a rank of the plan
pub rank-below : (bytes : List ℕ) (plan : Plan) (cells line : ℕ) (spread : Spread) (cell : ℕ) → plan_of bytes ≡ Ok plan → misfit plan cells ≡ None → Contains plan.moves (line, Part spread) → cell < cells → rank_by plan.ranks spread cell cells < plan.ranks
unfolding misfit
rank-below bytes plan cells line spread cell read fits there below =
    rank_by-below plan.ranks cells line spread cell (plan-read bytes plan read).some_rank
    (all_contained (λ m. AllByRecursion (λ (c : Bool × PlanFault). c.0 ≡ false) (misfits plan.ranks cells m)) plan.moves (line, Part spread)
    (all_in_flat_map (λ (c : Bool × PlanFault). c.0 ≡ false) (misfits plan.ranks cells) plan.moves (first_cause-none _ fits)) there) below
