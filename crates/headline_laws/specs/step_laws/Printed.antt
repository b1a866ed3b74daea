-- What a step of a plan is printed of.
use Rattle.std.specs.Prelude.{◌≡◌, ◌-◌, ◌==◌, if◌then◌else◌, List, [], ◌∷◌, ◌++◌, map}
use Rattle.mesh_defs.specs.Diagram.{IsAccepted}
use Rattle.sf_defs.specs.declared.Tag.TheVariants.{Home, Number}
use Rattle.sf_defs.specs.Rounds.{Round}
use Rattle.rank_defs.specs.Home.{bases_of}
use Rattle.rank_defs.specs.Spread.{IsDist, migration_forest}
use Rattle.input_defs.specs.Plans.{DofsLine, is_part, step_of}
use Rattle.input_defs.specs.States.{State, first_ranks}
use Rattle.headline_defs.specs.StepText.{Subject}
use Rattle.walk_defs.specs.step_defs.Words.{FitsWords}
use Rattle.walk_defs.specs.step_defs.Numbers.{held_numbers}
use Rattle.walk_defs.specs.step_defs.Steps.{Printed}

-- the rounds that a step shows: the home round where it is the first, the number round where it is a part
abbrev pub rounds_of : State → Round → Round → List Round
rounds_of s home latest = (if s.steps == 1 then home ∷ [] else []) ++ (if is_part s.move then latest ∷ [] else [])

-- What is printed is that of the state after a step: the mesh as it is spread then, the bases and the numbers of the number
-- round of the latest part, the traces under the first part, and the rounds that the step shows.
pub record IsPrinted (x : Subject) (s : State) (home latest : Round) (p : Printed) : Type 0 where
  pub dist : IsDist p.dist x.mesh (map (λ (d : DofsLine). d.dofs) x.plan.dofs) s.ranks x.plan.ranks s.layers
  pub accepted : IsAccepted x.mesh
  pub fits : FitsWords x.mesh
  pub place : p.place ≡ s.steps - 1
  pub step : p.step ≡ step_of s.move
  pub bases : p.bases ≡ bases_of latest
  pub numbers : p.numbers ≡ held_numbers x.mesh s.ranks x.plan.ranks s.layers (bases_of latest)
  pub trace : p.trace ≡ migration_forest x.mesh (first_ranks x.mesh x.plan) s.ranks x.plan.ranks
  pub home_tag : home.tag ≡ Home
  pub number_tag : latest.tag ≡ Number
  pub rounds : p.rounds ≡ rounds_of s home latest
  pub show : p.show ≡ x.show
