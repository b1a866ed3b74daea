-- The text of a step over what ranks hold is the text of the headline.
use Rattle.std.proofs.Common.{◌≡◌, ℕ, ◌-◌, Bool, true, false, ◌&&◌, ◌==◌, List, [], ◌∷◌, ◌++◌, refl, ap, ◌∙◌, append-nil, append_assoc}
use Rattle.std.specs.Prelude.{flat_map, codes, if◌then◌else◌}
use Rattle.sf_defs.specs.declared.Tag.{Tag}
use Rattle.sf_defs.specs.declared.Tag.TheVariants.{Home, Number, Free}
use Rattle.sf_defs.specs.declared.Ask.{Ask}
use Rattle.sf_defs.specs.declared.Turn.{Turn}
use Rattle.sf_defs.specs.Rounds.{Round}
use Rattle.rank_defs.specs.Home.{bases_of}
use Rattle.rank_defs.specs.Ranks.{IsAssignment}
use Rattle.rank_defs.specs.Spread.{PlainDist, plain_dist, migration_forest}
use Rattle.input_defs.specs.text_defs.Text.{Rank}
use Rattle.input_defs.specs.Plans.{Move, Part, Layers, is_part, step_of}
use Rattle.input_defs.specs.States.{State, first_ranks}
use Rattle.headline_defs.specs.Lines.{move_line}
use Rattle.headline_defs.specs.StepText.{Subject, ranks_with, windows_text, where_shown, step_details, step_lines}
use Rattle.walk_defs.specs.step_defs.Numbers.{held_numbers}
use Rattle.walk_defs.specs.step_defs.Steps.{Printed, ranks_of, plain_round, step_head, plain_details, plain_step}
use Rattle.headline_laws.specs.step_laws.Printed.{rounds_of, IsPrinted}
use Rattle.headline_laws.proofs.step_laws.Local.{counts_of}
use Rattle.headline_laws.proofs.step_laws.Assigned.{cells-owned}
use Rattle.headline_laws.proofs.step_laws.Counts.{ranks-text, ghosts-text, total-is}
use Rattle.headline_laws.proofs.step_laws.Points.{points-are, locals-are}
use Rattle.headline_laws.proofs.step_laws.Traces.{traces-are}
use Rattle.headline_laws.proofs.step_laws.Closures.{closures-are}
use Rattle.headline_laws.proofs.step_laws.Sums.{sums-are}

-- ---- the first line

head-is : (place : ℕ) (move : Move) → step_head place (step_of move) ≡ move_line place move
unfolding move_line
head-is place (Part spread) = refl
head-is place (Layers k) = refl

-- ---- rounds

-- the words of a round with this tag
round-text : (t : Tag) (before : List ℕ) (asks : List (List Ask)) (got : List (List ℕ)) (after : List ℕ) (order : List (List Turn)) → let r : Round = record { tag = t; before = before; asks = asks; got = got; after = after; order = order } in
    (t ≡ Home → plain_round r ≡ windows_text (codes "home") r) × (t ≡ Number → plain_round r ≡ windows_text (codes "number") r)
unfolding plain_round
round-text Home before asks got after order = ((λ e. refl), (λ e. absurd (cc e)))
round-text Number before asks got after order = ((λ e. absurd (cc e)), (λ e. refl))
round-text Free before asks got after order = ((λ e. absurd (cc e)), (λ e. absurd (cc e)))

home-text : (r : Round) → r.tag ≡ Home → plain_round r ≡ windows_text (codes "home") r
home-text r = (round-text r.tag r.before r.asks r.got r.after r.order).0

number-text : (r : Round) → r.tag ≡ Number → plain_round r ≡ windows_text (codes "number") r
number-text r = (round-text r.tag r.before r.asks r.got r.after r.order).1

-- the rounds of a step
rounds-are : (shown : Bool) (s : State) (home latest : Round) → home.tag ≡ Home → latest.tag ≡ Number
    → where_shown shown (flat_map plain_round (rounds_of s home latest)) ≡ where_shown (shown && (s.steps == 1)) (windows_text (codes "home") home) ++ where_shown (shown && is_part s.move) (windows_text (codes "number") latest)
rounds-are shown s home latest h g = go shown (s.steps == 1) (is_part s.move)
  where
    go : (a b c : Bool) → where_shown a (flat_map plain_round ((if b then home ∷ [] else []) ++ (if c then latest ∷ [] else []))) ≡ where_shown (a && b) (windows_text (codes "home") home) ++ where_shown (a && c) (windows_text (codes "number") latest)
    go false b c = refl
    go true true true = (λ i. home-text home h i ++ (number-text latest g i ++ [])) ∙ ap (λ t. windows_text (codes "home") home ++ t) (append-nil (windows_text (codes "number") latest))
    go true true false = (λ i. home-text home h i ++ [])
    go true false true = (λ i. number-text latest g i ++ []) ∙ append-nil (windows_text (codes "number") latest)
    go true false false = refl

-- ---- the step

regroup : (front home number : List ℕ) → front ++ (home ++ number) ≡ front ++ home ++ number
regroup front home number = simp append_assoc

module _ (x : Subject) (s : State) (home latest : Round) (p : Printed) (is : IsPrinted x s home latest p) where
  abbrev pub dist : PlainDist
  dist = plain_dist x.mesh (counts_of x.plan.dofs) s.ranks x.plan.ranks s.layers

  abbrev all : List Rank
  all = ranks_with x.mesh x.plan.ranks s.ranks s.layers (bases_of latest)

  -- what is printed, part by part
  abbrev pub printed : Printed
  printed = record {
    place = s.steps - 1;
    step = step_of s.move;
    dist = dist;
    bases = bases_of latest;
    numbers = held_numbers x.mesh s.ranks x.plan.ranks s.layers (bases_of latest);
    trace = migration_forest x.mesh (first_ranks x.mesh x.plan) s.ranks x.plan.ranks;
    rounds = rounds_of s home latest;
    show = x.show;
  }

  pub is-printed : p ≡ printed
  is-printed = (λ i. record { place = is.place i; step = is.step i; dist = is.dist.value i; bases = is.bases i; numbers = is.numbers i; trace = is.trace i; rounds = is.rounds i; show = is.show i })

  parts : IsAssignment x.mesh x.plan.ranks s.ranks
  parts = is.dist.assignment.each

  details-are : plain_details printed (ranks_of dist) ≡ step_details x s home latest all
  unfolding plain_details step_details plain_dist
  details-are =
      let m = x.mesh in let dofs = x.plan.dofs in let a = s.ranks in let n = x.plan.ranks in let k = s.layers in let bases = bases_of latest in
      (λ i. ranks-text m dofs a n k bases (λ r low. cells-owned m is.dist.mesh a r) i ++ ghosts-text m dofs a n k bases i ++ total-is m dofs a n k bases i
      ++ where_shown x.show.points (points-are m dofs a n k bases is.dist.mesh is.accepted is.fits parts i) ++ where_shown x.show.local (locals-are m dofs a n k bases is.dist.mesh is.accepted is.fits parts i)
      ++ where_shown x.show.closure (closures-are m dofs a n k bases is.dist.mesh is.accepted parts i) ++ where_shown x.show.trace (traces-are m dofs (first_ranks m x.plan) a n k bases is.dist.mesh i)
      ++ rounds-are x.show.windows s home latest is.home_tag is.number_tag i)
      ∙ regroup _ (where_shown (x.show.windows && (s.steps == 1)) (windows_text (codes "home") home)) (where_shown (x.show.windows && is_part s.move) (windows_text (codes "number") latest))

  -- the text of the step is the headline's
  pub step-text : plain_step p ≡ step_lines x s home latest
  unfolding plain_step step_lines plain_dist
  step-text =
      ap plain_step is-printed
      ∙ (λ i. head-is (s.steps - 1) s.move i ++ (if x.show.summary then sums-are x.mesh x.plan.dofs s.ranks x.plan.ranks s.layers (bases_of latest) is.dist.mesh is.fits i else details-are i))
