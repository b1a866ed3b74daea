-- Plans that spread a mesh once: each step is a part that spreads the cells as the first one does.
use Rattle.std.specs.Prelude.{◌≡◌, ℕ, ◌≤◌, true, List, length, get_or}
use Rattle.std.specs.List.{AllByRecursion}
use Rattle.mesh_defs.specs.Mesh.{Mesh}
use Rattle.sf_defs.specs.Rounds.{Round}
use Rattle.rank_defs.specs.Ranks.{IsRightAssignment}
use Rattle.rank_defs.specs.Home.{IsHomeRound, IsNumberRound}
use Rattle.input_defs.specs.Plans.{Plan, is_part}
use Rattle.input_defs.specs.States.{State, states, first_ranks, before_any_step}
use Rattle.headline_defs.specs.StepText.{Subject}

-- what stands after a part by this assignment: no layers do
pub record IsPartBy (a : List ℕ) (s : State) : Type 0 where
  pub ranks : s.ranks ≡ a
  pub layers : s.layers ≡ 0
  pub part : is_part s.move ≡ true

-- there is a first step, it assigns each cell rightly, and each step is a part by its assignment
pub record IsSpreadOnce (m : Mesh) (plan : Plan) : Type 0 where
  pub some : 1 ≤ length (states m plan)
  pub right : IsRightAssignment m plan.ranks (first_ranks m plan)
  pub steps : AllByRecursion (IsPartBy (first_ranks m plan)) (states m plan)

-- the home round, and the number round of each step
abbrev pub IsHome : Mesh → Plan → Round → Type 0
IsHome m plan r = IsHomeRound m (first_ranks m plan) plan.ranks r

abbrev pub IsDrawn : Mesh → Plan → Round → Type 0
IsDrawn m plan r = IsNumberRound m (first_ranks m plan) plan.ranks r

-- what stands after step i
abbrev pub state_at : Subject → ℕ → State
state_at x i = get_or (states x.mesh x.plan) i before_any_step
