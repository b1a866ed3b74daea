-- Where a call stands that goes through the steps of a plan.
use Rattle.std.specs.Prelude.{◌≡◌, ℕ, ◌+◌, List, length, filter, take}
use Rattle.mesh_defs.specs.Mesh.{Mesh}
use Rattle.sf_defs.specs.Rounds.{Round}
use Rattle.input_defs.specs.Plans.{Plan, is_part}
use Rattle.input_defs.specs.States.{State, states}
use Rattle.headline_defs.specs.Rounds.{due, AreFirst}

-- how many of these steps are parts
abbrev pub parts_in : List State → ℕ
parts_in steps = length (filter (λ (s : State). is_part s.move) steps)

-- The rounds that were added are the first of those that are due: the home round, and the number round of each part among
-- the first i steps.
pub record IsAt (m : Mesh) (plan : Plan) (i : ℕ) (added : List Round) : Type 0 where
  pub first : AreFirst m plan.ranks (due m plan) added
  pub count : length added ≡ parts_in (take i (states m plan)) + 1
