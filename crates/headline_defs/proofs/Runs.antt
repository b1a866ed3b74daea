-- What a plan's bytes print of a mesh, where the rounds go by picks.
use Rattle.std.proofs.Common.{ℕ, false, List, Ok, Err, Result}
use Rattle.mesh_defs.specs.Mesh.{Mesh}
use Rattle.input_defs.specs.declared.PlanFault.{PlanFault}
use Rattle.input_defs.specs.Plans.{Plan, plain_plan, plan_of}
use Rattle.input_defs.specs.Refused.{Task}
use Rattle.headline_defs.specs.StepText.{whole_text}
use Rattle.headline_defs.specs.Headline.{subject_of}
use Rattle.headline_defs.specs.Tops.{runs}

abbrev pub plan_in : Result Plan PlanFault → Plan
plan_in (Ok plan) = plan
plan_in (Err fault) = plain_plan

abbrev pub task_of : Mesh → List ℕ → Task
task_of m bytes = record { mesh = m; plan = plan_in (plan_of bytes); summary = false }

-- the text of a mesh under a plan
abbrev pub printed : Mesh → List ℕ → List ℕ → List ℕ
printed m bytes picks = whole_text (subject_of (task_of m bytes)) (runs picks (task_of m bytes))
