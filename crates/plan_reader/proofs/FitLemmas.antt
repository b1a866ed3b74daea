-- Whether plans fit.
use Rattle.std.proofs.Common.{◌≡◌, ℕ, zero, suc, Ok, Err, drop, get_or, subst, ◌+◌, ◌<◌, Bool, true, false, not, leb, List, [], ◌∷◌, ◌++◌, length, Option, Some, None, refl, sym, ap, ◌∙◌, arith}
use Rattle.std.specs.Prelude.{option_map, find, nat_le, ◌==◌}
use Rattle.std.specs.List.{flat_map}
use Rattle.input_defs.specs.declared.PlanFault.{PlanFault}
use Rattle.input_defs.specs.declared.PlanFault.TheVariants.{PartLength, PartRank}
use Rattle.input_defs.specs.Causes.{first_cause, unless}
use Rattle.input_defs.specs.Plans.{Plan, misfit, Move, Part, Layers, Spread, Block, Stripe, Listed, misfits, ranks_above}
use Rattle.plan_reader.specs.declared.moves.MoveLine.{MoveLine}
use Rattle.plan_reader.specs.Reading.{move_line_view, move_view, move_views, spread_view}
use Rattle.plan_reader.specs.Drafts.{PlanText, plan_text, spread_at, spread_of}
use Rattle.plan_reader.specs.declared.moves.Spread.{Spread as StoredSpread}
use Rattle.plan_reader.specs.declared.moves.Move.{Move as StoredMove}
use Rattle.plan_reader.specs.declared.moves.Move.TheVariants as move
use Rattle.plan_reader.specs.declared.moves.DofsLine.{DofsLine}
use Rattle.input_defs.specs.declared.Show.{Show}
use Rattle.std.specs.Option.{IsSome}
use Rattle.std.proofs.lemmas.List.{drop_more}
use Rattle.plan_reader.specs.Fits.{HasRankFor, ranks_fit}

-- the first listed rank that is not below the ranks
above_at : (ranks line rank : ℕ) (others : List ℕ) (above : Bool) → leb ranks rank ≡ above → first_cause (ranks_above ranks line others) ≡ option_map (PartRank line) (find (nat_le ranks) others)
    → first_cause (ranks_above ranks line (rank ∷ others)) ≡ option_map (PartRank line) (find (nat_le ranks) (rank ∷ others))
above_at ranks line rank others true e h = rw e refl
above_at ranks line rank others false e h = rw e h

pub first_above : (ranks line : ℕ) (each : List ℕ) → first_cause (ranks_above ranks line each) ≡ option_map (PartRank line) (find (nat_le ranks) each)
first_above ranks line [] = refl
first_above ranks line (rank ∷ others) = above_at ranks line rank others (leb ranks rank) refl (first_above ranks line others)

self_same : (n : ℕ) → (n == n) ≡ true
self_same n = grind arith

-- a list of the right length
pub ranks_fit-is : (ranks cells line : ℕ) (each : List ℕ) → length each ≡ cells → first_cause (ranks_fit ranks cells line each) ≡ option_map (PartRank line) (find (nat_le ranks) each)
ranks_fit-is ranks cells line each e = rw (e, self_same cells) (first_above ranks line each)

-- ---- one after another

-- what stands after causes that do not stand
pub first_cause-append_none : {E : Type 0} (xs ys : List (Bool × E)) → first_cause xs ≡ None → first_cause (xs ++ ys) ≡ first_cause ys
first_cause-append_none [] ys e = refl
first_cause-append_none ((true, x) ∷ xs) ys e = cc
first_cause-append_none ((false, x) ∷ xs) ys e = first_cause-append_none xs ys e

pub first_cause-append_some : {E : Type 0} (xs ys : List (Bool × E)) (x : E) → first_cause xs ≡ Some x → first_cause (xs ++ ys) ≡ Some x
first_cause-append_some [] ys x e = cc
first_cause-append_some ((true, y) ∷ xs) ys x e = e
first_cause-append_some ((false, y) ∷ xs) ys x e = first_cause-append_some xs ys x e

-- where causes do not stand, the first of them do not
pub first_cause-none_first : {E : Type 0} (xs ys : List (Bool × E)) → first_cause (xs ++ ys) ≡ None → first_cause xs ≡ None
first_cause-none_first [] ys e = refl
first_cause-none_first ((true, x) ∷ xs) ys e = cc
first_cause-none_first ((false, x) ∷ xs) ys e = first_cause-none_first xs ys e

unless_ok : {E : Type 0} (found : Option E) → Ok (tt {0}) ≡ unless found (tt {0}) → found ≡ None
unless_ok None e = refl
unless_ok (Some x) e = cc

unless_err : {E : Type 0} (found : Option E) (x : E) → Err x ≡ unless found (tt {0}) → found ≡ Some x
unless_err None x e = cc
unless_err (Some y) x e = cc

abbrev pub causes_of : (ℕ × Move → List (Bool × PlanFault)) → List MoveLine → Option PlanFault
causes_of f moves = first_cause (flat_map f (move_views moves))

-- one move fits
pub fits_more : (f : ℕ × Move → List (Bool × PlanFault)) (moves : List MoveLine) (i : ℕ) (m : MoveLine) → i < length moves → m ≡ get_or moves i m → Ok (tt {0}) ≡ unless (first_cause (f (move_line_view m))) (tt {0})
    → causes_of f moves ≡ causes_of f (drop i moves) → causes_of f moves ≡ causes_of f (drop (i + 1) moves)
fits_more f moves i m lt m-is fits so_far =
    let none : first_cause (f (move_line_view (get_or moves i m))) ≡ None = rw (← m-is) (unless_ok _ fits) in
    so_far ∙ (ap (causes_of f) (drop_more moves i m lt) ∙ first_cause-append_none (f (move_line_view (get_or moves i m))) (flat_map f (move_views (drop (i + 1) moves))) none)

-- one move does not
pub fits_not : (f : ℕ × Move → List (Bool × PlanFault)) (moves : List MoveLine) (i : ℕ) (m : MoveLine) (e : PlanFault) → i < length moves → m ≡ get_or moves i m → Err e ≡ unless (first_cause (f (move_line_view m))) (tt {0})
    → causes_of f moves ≡ causes_of f (drop i moves) → Err e ≡ unless (causes_of f moves) (tt {0})
fits_not f moves i m e lt m-is fails so_far =
    let some : first_cause (f (move_line_view (get_or moves i m))) ≡ Some e = rw (← m-is) (unless_err _ e fails) in
    let all : causes_of f moves ≡ Some e = so_far ∙ (ap (causes_of f) (drop_more moves i m lt) ∙ first_cause-append_some (f (move_line_view (get_or moves i m))) (flat_map f (move_views (drop (i + 1) moves))) e some) in
    rw all refl

-- ---- a plan that fits

long_enough : (line cells : ℕ) (each : List ℕ) (others : List (Bool × PlanFault)) (same : Bool) → (length each == cells) ≡ same → first_cause ((not same, PartLength line cells (length each)) ∷ others) ≡ None → length each ≡ cells
long_enough line cells each others true test none = grind arith
long_enough line cells each others false test none = cc

listed_fits : (ranks cells : ℕ) (m : ℕ × Move) (s : Spread) → first_cause (misfits ranks cells m) ≡ None → spread_of m ≡ Some s → HasRankFor cells s
unfolding misfits
listed_fits ranks cells (line, Part Block) Block fits e = tt
listed_fits ranks cells (line, Part Block) Stripe fits e = tt
listed_fits ranks cells (line, Part Block) (Listed each) fits e = cc
listed_fits ranks cells (line, Part Stripe) Block fits e = tt
listed_fits ranks cells (line, Part Stripe) Stripe fits e = tt
listed_fits ranks cells (line, Part Stripe) (Listed each) fits e = cc
listed_fits ranks cells (line, Part (Listed each)) s fits e =
    let is : Listed each ≡ s = cc in
    let long : HasRankFor cells (Listed each) = long_enough line cells each (ranks_above ranks line each) _ refl fits in
    subst (HasRankFor cells) is long
listed_fits ranks cells (line, Layers k) s fits e = cc

-- of a plan that fits each part that lists ranks has one for each cell
fits_at : (ranks cells : ℕ) (moves : List (ℕ × Move)) (i : ℕ) (s : Spread) → first_cause (flat_map (misfits ranks cells) moves) ≡ None → spread_at moves i ≡ Some s → HasRankFor cells s
fits_at ranks cells [] i s fits e = cc
fits_at ranks cells (m ∷ moves) zero s fits e = listed_fits ranks cells m s (first_cause-none_first (misfits ranks cells m) _ fits) e
fits_at ranks cells (m ∷ moves) (suc i) s fits e =
    let one = first_cause-none_first (misfits ranks cells m) (flat_map (misfits ranks cells) moves) fits in
    fits_at ranks cells moves i s (sym (first_cause-append_none (misfits ranks cells m) (flat_map (misfits ranks cells) moves) one) ∙ fits) e

pub fits-listed : (plan : Plan) (cells i : ℕ) (s : Spread) → misfit plan cells ≡ None → spread_at plan.moves i ≡ Some s → HasRankFor cells s
unfolding misfit
fits-listed plan cells i s fits e = fits_at plan.ranks cells plan.moves i s fits e

-- ---- the part at a place

pub some_none : IsSome {T = Spread} None → ⊥
some_none h = cc

at_move : (moves : List MoveLine) (i : ℕ) (m : MoveLine) → m ≡ get_or moves i m → IsSome (spread_at (move_views moves) i) → spread_at (move_views moves) i ≡ spread_of (move_line_view m)
at_move [] i m e part = absurd (some_none part)
at_move (x ∷ moves) zero m e part = ap (λ (m : MoveLine). spread_of (move_line_view m)) (sym e)
at_move (x ∷ moves) (suc i) m e part = at_move moves i m e part

-- it is the move that stands there
pub part_at : (p : PlanText) (ranks : ℕ) (moves : List MoveLine) (dofs : List DofsLine) (shows : Show) (i : ℕ) (m : MoveLine) (s : StoredSpread) → plan_text ranks moves dofs shows ≡ p
    → m ≡ get_or moves i m → m.what ≡ move.Part s → IsSome (spread_at p.plan.moves i) → spread_at p.plan.moves i ≡ Some (spread_view s)
part_at p ranks moves dofs shows i m s e m-is what =
    subst (λ (p : PlanText). IsSome (spread_at p.plan.moves i) → spread_at p.plan.moves i ≡ Some (spread_view s)) e
    (λ part. at_move moves i m m-is part ∙ ap (λ (w : StoredMove). spread_of (m.line, move_view w)) what)

pub no_part_at : (p : PlanText) (ranks : ℕ) (moves : List MoveLine) (dofs : List DofsLine) (shows : Show) (i : ℕ) (m : MoveLine) (k : ℕ) → plan_text ranks moves dofs shows ≡ p
    → m ≡ get_or moves i m → m.what ≡ move.Layers k → IsSome (spread_at p.plan.moves i) → ⊥
no_part_at p ranks moves dofs shows i m k e m-is what =
    subst (λ (p : PlanText). IsSome (spread_at p.plan.moves i) → ⊥) e
    (λ part. some_none (subst IsSome (at_move moves i m m-is part ∙ ap (λ (w : StoredMove). spread_of (m.line, move_view w)) what) part))
