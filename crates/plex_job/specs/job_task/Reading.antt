-- What plan bytes and a mesh's file give, and what reading them answers.
use Rattle.std.specs.Prelude.{◌≡◌, ◌⊎◌, ℕ, ◌≤◌, Bool, true, List, length, Option, Some, None, Result, Ok, Err, Contains}
use Rattle.std.specs.List.{AllByRecursion}
use Rattle.cause_defs.specs.Told.{Told}
use Rattle.input_defs.specs.text_defs.Refusals.{most_bytes}
use Rattle.mesh_defs.specs.Mesh as meshes
use Rattle.input_defs.specs.declared.Status.TheVariants as status
use Rattle.input_defs.specs.Words.{most}
use Rattle.input_defs.specs.Plans as plans
use Rattle.input_defs.specs.Plans.{plain_plan, plan_of, is_part, misfit}
use Rattle.input_defs.specs.Causes.{◌>>=◌}
use Rattle.input_defs.specs.Generated.{made}
use Rattle.input_defs.specs.Refused as refused
use Rattle.input_defs.specs.Refused.{or_refuse, plan_refused, mesh_in, where_fits}
use Rattle.input_defs.specs.Ahead.{built_plan}
use Rattle.headline_defs.specs.Headline.{Asking, AskedFiles, AreFiles, fitting_given, names_asked}
use Rattle.report.specs.declared.refusal.Refusal as declared
use Rattle.report.specs.declared.refusal.Refusal.TheVariants.{Words, Read, TooLong, Plan, Msh, Mesh, Twist}
use Rattle.report.specs.Refusals.{HasLine, refusal_line, refusal_status}
use Rattle.plex_job.specs.declared.job_task.stop.Stop.{Stop}
use Rattle.plex_job.specs.declared.job_task.stop.Stop.TheVariants.{Refused, NoMemory}
use Rattle.plex_job.specs.declared.job_task.task.Task.{Task}
use Rattle.plex_job.specs.declared.job_task.files.Input.{Input}
use Rattle.plex_job.specs.declared.job_task.files.Input.TheVariants.{File, Made}

abbrev pub task_view : Task → refused.Task
task_view t = record { mesh = t.mesh; plan = t.plan.plan; summary = t.summary }

abbrev pub refusal_view : declared.Refusal → refused.Refusal
refusal_view r = record { status = refusal_status r; text = refusal_line r }

-- ---- what the files give, once they are taken

-- the plan that its bytes say, or the plain one without a file
abbrev pub plan_given : Option (List ℕ) → Result plans.Plan refused.Refusal
plan_given None = Ok plain_plan
plan_given (Some bytes) = or_refuse status.Plan plan_refused (built_plan bytes)

abbrev pub mesh_given : Input → Result meshes.Mesh refused.Refusal
mesh_given (File bytes) = mesh_in bytes.items
mesh_given (Made kind n) = Ok (made kind n)

-- the plan's refusal comes before the mesh's, and that it does not fit comes last
abbrev pub task_given : Bool → Result plans.Plan refused.Refusal → Result meshes.Mesh refused.Refusal → Result refused.Task refused.Refusal
task_given summary plan mesh = plan >>= (λ p. mesh >>= (λ m. where_fits summary p m))

-- the stop is the refusal that is given, of a plan or a mesh, and has a line; want of memory may stand in its place
abbrev pub IsStopOf : {A : Type 0} → Result A refused.Refusal → Stop → Type 0
IsStopOf given NoMemory = Unit {0}
IsStopOf given (Refused Words) = ⊥
IsStopOf given (Refused (Read name)) = ⊥
IsStopOf given (Refused (TooLong name)) = ⊥
IsStopOf given (Refused (Plan fault)) = (given ≡ Err (refusal_view (Plan fault))) × HasLine (Plan fault)
IsStopOf given (Refused (Msh fault)) = (given ≡ Err (refusal_view (Msh fault))) × HasLine (Msh fault)
IsStopOf given (Refused (Mesh fault)) = (given ≡ Err (refusal_view (Mesh fault))) × HasLine (Mesh fault)
IsStopOf given (Refused (Twist key)) = ⊥

-- the fact holds of the refusal
abbrev pub WhereRefused : Stop → (declared.Refusal → Type 0) → Type 0
WhereRefused NoMemory P = Unit {0}
WhereRefused (Refused refusal) P = P refusal

-- ---- what may be read

abbrev pub IsShort : Option (List ℕ) → Type 0
IsShort None = Unit {0}
IsShort (Some bytes) = length bytes ≤ most_bytes

-- a short file, or a kind with a number that it may have
abbrev pub IsReadable : Input → Type 0
IsReadable (File bytes) = length bytes.items ≤ most_bytes
IsReadable (Made kind n) = (1 ≤ n) × (n ≤ most kind)

-- ---- what words and a shelf give

-- there are files in accord with what is told, and what they give is this
pub record Gives (a : Asking) (file : List ℕ → Told (List ℕ)) (given : Result refused.Task refused.Refusal) : Type 0 where
  pub files : AskedFiles
  pub agree : AreFiles a file files
  pub gives : fitting_given a files ≡ given

-- The refusal has its cause: taking a file of this name has failed, or the files give it. `failed` tells that taking the file
-- of a name has failed.
abbrev pub HasCause : Asking → (List ℕ → Told (List ℕ)) → (List ℕ → Type 0) → declared.Refusal → Type 0
HasCause a file failed (Read name) = Contains (names_asked a) name.now × failed name.now
HasCause a file failed Words = Gives a file (Err (refusal_view Words))
HasCause a file failed (TooLong name) = Gives a file (Err (refusal_view (TooLong name)))
HasCause a file failed (Plan fault) = Gives a file (Err (refusal_view (Plan fault)))
HasCause a file failed (Msh fault) = Gives a file (Err (refusal_view (Msh fault)))
HasCause a file failed (Mesh fault) = Gives a file (Err (refusal_view (Mesh fault)))
HasCause a file failed (Twist key) = ⊥

abbrev pub IsStop : Asking → (List ℕ → Told (List ℕ)) → (List ℕ → Type 0) → Stop → Type 0
IsStop a file failed NoMemory = Unit {0}
IsStop a file failed (Refused refusal) = HasCause a file failed refusal

-- what is refused has a line
abbrev pub IsSayable : Stop → Type 0
IsSayable stop = WhereRefused stop HasLine

-- the plan has few steps, all of them parts, and one alone where there is more than one rank
pub record HasBuiltSteps (plan : plans.Plan) : Type 0 where
  pub parts : AllByRecursion (λ (move : ℕ × plans.Move). is_part move.1 ≡ true) plan.moves
  pub single : (plan.ranks ≡ 1) ⊎ (length plan.moves ≡ 1)
  pub steps : length plan.moves ≤ 32

-- so does a task's plan, which some bytes say, and it fits the mesh
pub record IsBuilt (task : refused.Task) : Type 0 where
  pub bytes : List ℕ
  pub said : plan_of bytes ≡ Ok task.plan
  pub plan : HasBuiltSteps task.plan
  pub fits : misfit task.plan (length task.mesh.cells) ≡ None
