-- A mesh on the ranks of its plan, and what a step is printed of.
use Rattle.std.specs.Prelude.{◌≡◌, ℕ, ◌==◌, if◌then◌else◌, List, [], ◌∷◌, ◌++◌, None}
use Rattle.mesh_defs.specs.Mesh.{Mesh}
use Rattle.mesh_defs.specs.Diagram.{twist_key}
use Rattle.sf_defs.specs.Forest.{Forest}
use Rattle.sf_defs.specs.Rounds.{Round}
use Rattle.rank_defs.specs.Home.{bases_of}
use Rattle.rank_defs.specs.Spread.{PlainDist, IsDist, migration_forest}
use Rattle.input_defs.specs.Plans.{Plan}
use Rattle.input_defs.specs.Refused.{Task}
use Rattle.input_defs.specs.States.{first_ranks}
use Rattle.headline_defs.specs.Headline.{subject_of}
use Rattle.headline_defs.specs.StepText.{Subject}
use Rattle.walk_defs.specs.step_defs.Words.{FitsWords}
use Rattle.input_defs.specs.declared.Step.TheVariants as step
use Rattle.walk_defs.specs.step_defs.Steps.{Printed}
use Rattle.walk_defs.specs.step_defs.Numbers.{held_numbers}
use Rattle.dist_number.specs.Drawn.{Drawn, drawn_in}
use Rattle.plan_reader.specs.Drafts.{counts_of}
use Rattle.plex_job.specs.job_task.Reading.{task_view, IsBuilt}
use Rattle.plex_job.specs.declared.spreading.Spreading.{Spreading}
use Rattle.plex_job.specs.Once.{IsHome, IsDrawn}

-- what is printed
abbrev pub printed : Spreading → Subject
printed s = subject_of (task_view s.task.now)

-- the mesh of a task, which has no twist, over the ranks of the plan's first part
pub record IsDistOf (t : Task) (d : PlainDist) : Type 0 where
  pub even : twist_key t.mesh ≡ None
  pub fits : FitsWords t.mesh
  pub dist : IsDist d t.mesh (counts_of t.plan.dofs) (first_ranks t.mesh t.plan) t.plan.ranks 0

-- where each point is that a rank owns
abbrev pub first_trace_of : Task → Forest
first_trace_of t = migration_forest t.mesh (first_ranks t.mesh t.plan) (first_ranks t.mesh t.plan) t.plan.ranks

-- the mesh is spread over the ranks of the plan, and each point that a rank owns has its trace
pub record IsSpread (s : Spreading) : Type 0 where
  pub built : IsBuilt (task_view s.task.now)
  pub whole : IsDistOf (task_view s.task.now) s.dist
  pub trace : s.trace ≡ first_trace_of (task_view s.task.now)

-- the rounds that step i shows: the first one shows the home round too
abbrev pub shown : ℕ → Round → Round → List Round
shown i home latest = (if i == 0 then home ∷ [] else []) ++ latest ∷ []

-- what step i, which is a part, is printed of
abbrev pub printed_at : Spreading → ℕ → Drawn → List (List ℕ) → List Round → Printed
printed_at s i bases numbers rounds = record {
  place = i;
  step = step.Part;
  dist = s.dist;
  bases = bases.bases;
  numbers = numbers;
  trace = s.trace;
  rounds = rounds;
  show = (printed s).show;
}

-- the numbers of all points that ranks hold, by these bases
abbrev pub numbers_by : Mesh → Plan → List ℕ → List (List ℕ)
numbers_by m plan bases = held_numbers m (first_ranks m plan) plan.ranks 0 bases

-- step i is printed of these rounds, bases and numbers
pub record IsStepOf (s : Spreading) (i : ℕ) (home latest : Round) (bases : Drawn) (numbers : List (List ℕ)) (rounds : List Round) : Type 0 where
  pub home_is : IsHome (printed s).mesh (printed s).plan home
  pub latest_is : IsDrawn (printed s).mesh (printed s).plan latest
  pub bases_are : bases ≡ drawn_in latest
  pub numbers_are : numbers ≡ numbers_by (printed s).mesh (printed s).plan (bases_of latest)
  pub rounds_are : rounds ≡ shown i home latest
