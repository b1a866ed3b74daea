-- The steps of plans that are read and not built yet. This file stands here until all of them are.
use Rattle.std.specs.Prelude.{ℕ, Bool, true, nat_le, List, drop, find, Option, option_map, Result}
use Rattle.input_defs.specs.declared.PlanFault.{PlanFault}
use Rattle.input_defs.specs.declared.PlanFault.TheVariants.{NotYet}
use Rattle.input_defs.specs.Causes.{◌>>=◌, unless}
use Rattle.input_defs.specs.Plans.{Move, Part, Layers, Plan, plan_of}
use Rattle.input_defs.specs.Refused.{Task, Refusal, task_by}

-- On so many ranks a step after the first one is not built: layers of overlap on any number, a part on two or more.
abbrev pub is_ahead : ℕ → ℕ × Move → Bool
is_ahead ranks (line, Part spread) = nat_le 2 ranks
is_ahead ranks (line, Layers k) = true

-- the line of the first step of a plan that is not built yet, or none; the first step of all is a part, which is built
unfoldable pub first_ahead : Plan → Option ℕ
first_ahead plan = option_map (λ (move : ℕ × Move). move.0) (find (is_ahead plan.ranks) (drop 1 plan.moves))

-- the plan that bytes say, or its first fault, or else its first line that is not built yet
abbrev pub built_plan : List ℕ → Result Plan PlanFault
built_plan bytes = plan_of bytes >>= (λ plan. unless (option_map NotYet (first_ahead plan)) plan)

-- What words and files ask for, as in `fitting_task`: a line that is not built is refused directly after the plan's own
-- faults, so once both files are there, and before the mesh file's faults.
abbrev pub built_task : List (List ℕ) → Option (List ℕ) → Option (List ℕ) → Result Task Refusal
built_task = task_by built_plan
