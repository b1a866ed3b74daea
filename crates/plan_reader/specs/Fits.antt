-- Parts that list ranks.
use Rattle.std.specs.Prelude.{◌≡◌, ℕ, ◌==◌, Bool, not, List, ◌∷◌, length}
use Rattle.input_defs.specs.declared.PlanFault.{PlanFault}
use Rattle.input_defs.specs.declared.PlanFault.TheVariants.{PartLength}
use Rattle.input_defs.specs.Plans.{Spread, Block, Stripe, Listed, ranks_above}

-- the ways in which the listed ranks of a part do not fit
abbrev pub ranks_fit : ℕ → ℕ → ℕ → List ℕ → List (Bool × PlanFault)
ranks_fit ranks cells line each = (not (length each == cells), PartLength line cells (length each)) ∷ ranks_above ranks line each

-- a list has a rank for each cell
abbrev pub HasRankFor : ℕ → Spread → Type 0
HasRankFor cells Block = Unit {0}
HasRankFor cells Stripe = Unit {0}
HasRankFor cells (Listed each) = length each ≡ cells
