-- The line and the status of a refusal.
use Rattle.std.specs.Prelude.{◌≢◌, ℕ, ◌≤◌, ◌%◌, List}
use Rattle.input_defs.specs.declared.MshFault.TheVariants as msh
use Rattle.input_defs.specs.declared.MeshFault.TheVariants as mesh
use Rattle.input_defs.specs.declared.PlanFault.TheVariants as plan
use Rattle.input_defs.specs.declared.Status.{Status}
use Rattle.input_defs.specs.declared.Status.TheVariants as status
use Rattle.input_defs.specs.text_defs.Refusals.{words_refused, read_refused, too_long_refused}
use Rattle.input_defs.specs.Refused.{plan_refused, msh_refused, mesh_refused, twist_refused}
use Rattle.report.specs.declared.refusal.Refusal.{Refusal}
use Rattle.report.specs.declared.refusal.Refusal.TheVariants.{Words, Read, TooLong, Plan, Msh, Mesh, Twist}

-- the key of a face as its cell sees it, 64c + 1 + f with f from 0 to 5
pub record IsFaceKey (key : ℕ) : Type 0 where
  pub first : 1 ≤ key % 64
  pub last : key % 64 ≤ 6

-- want of memory has no line, and a twist has one at a face
abbrev pub HasLine : Refusal → Type 0
HasLine Words = Unit {0}
HasLine (Read name) = Unit {0}
HasLine (TooLong name) = Unit {0}
HasLine (Plan fault) = fault ≢ plan.NoMemory
HasLine (Msh fault) = fault ≢ msh.NoMemory
HasLine (Mesh fault) = fault ≢ mesh.NoMemory
HasLine (Twist key) = IsFaceKey key.0

abbrev pub refusal_line : Refusal → List ℕ
refusal_line Words = words_refused
refusal_line (Read name) = read_refused name.now
refusal_line (TooLong name) = too_long_refused name.now
refusal_line (Plan fault) = plan_refused fault
refusal_line (Msh fault) = msh_refused fault
refusal_line (Mesh fault) = mesh_refused fault
refusal_line (Twist key) = twist_refused key.0

abbrev pub refusal_status : Refusal → Status
refusal_status Words = status.Words
refusal_status (Read name) = status.ReadFault
refusal_status (TooLong name) = status.TooLong
refusal_status (Plan fault) = status.Plan
refusal_status (Msh fault) = status.Mesh
refusal_status (Mesh fault) = status.Mesh
refusal_status (Twist key) = status.Mesh
