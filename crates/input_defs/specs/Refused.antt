-- Refusals: the first cause that stands, of words, plan bytes and mesh bytes, with its status and its line.
use Rattle.std.specs.Prelude.{ℕ, ◌-◌, ◌/◌, ◌%◌, Bool, nat_lt, if◌then◌else◌, List, [], ◌++◌, length, codes, decimal, Option, Some, None, ok_or, Result, Ok, Err}
use Rattle.std.specs.Result.{result_err}
use Rattle.mesh_defs.specs.Mesh.{Mesh}
use Rattle.mesh_defs.specs.Diagram.{twist_key}
use Rattle.input_defs.specs.text_defs.Text.{line}
use Rattle.input_defs.specs.text_defs.Refusals.{most_bytes, words_refused, read_refused, too_long_refused}
use Rattle.input_defs.specs.declared.What.{What}
use Rattle.input_defs.specs.declared.What.TheVariants as what
use Rattle.input_defs.specs.declared.MshFault.{MshFault}
use Rattle.input_defs.specs.declared.MshFault.TheVariants as msh
use Rattle.input_defs.specs.declared.MeshFault.{MeshFault}
use Rattle.input_defs.specs.declared.MeshFault.TheVariants as mesh
use Rattle.input_defs.specs.declared.PlanFault.{PlanFault}
use Rattle.input_defs.specs.declared.PlanFault.TheVariants as plan
use Rattle.input_defs.specs.declared.Status.{Status}
use Rattle.input_defs.specs.declared.Status.TheVariants as status
use Rattle.input_defs.specs.Causes.{◌>>=◌, map_ok, unless}
use Rattle.input_defs.specs.Files.{content}
use Rattle.input_defs.specs.Meshes.{accepted}
use Rattle.input_defs.specs.Plans.{Plan, plan_of, plain_plan, misfit}
use Rattle.input_defs.specs.Words.{Source, File, Made, request}
use Rattle.input_defs.specs.Generated.{made}

-- ---- lines; want of memory has none

-- a text and a number, or two
abbrev pub one_number : List ℕ → ℕ → List ℕ
one_number text n = text ++ codes " " ++ decimal n

abbrev pub on_line : ℕ → List ℕ → List ℕ
on_line l text = one_number (codes "line") l ++ codes " " ++ text

abbrev pub what_text : What → List ℕ
what_text what.Nodes = codes "too many nodes"
what_text what.Elements = codes "too many elements"
what_text what.Names = codes "too many names"
what_text what.Fields = codes "too many fields"

-- what stands after `refused: mesh`
unfoldable pub msh_text : MshFault → List ℕ
msh_text (msh.NotMsh l) = on_line l (codes "not msh")
msh_text (msh.Version l) = on_line l (codes "version")
msh_text (msh.Binary l) = on_line l (codes "binary")
msh_text (msh.Header l) = on_line l (codes "header")
msh_text (msh.BadNumber l) = on_line l (codes "bad number")
msh_text (msh.BadCount l) = on_line l (codes "bad count")
msh_text (msh.BadName l) = on_line l (codes "bad name")
msh_text (msh.Unclosed l) = on_line l (codes "unclosed")
msh_text (msh.RepeatedSection l) = on_line l (codes "repeated section")
msh_text (msh.MissingSection l nodes) = on_line l (codes "missing section " ++ (if nodes then codes "Nodes" else codes "Elements"))
msh_text (msh.RepeatedNodeNumber l n) = on_line l (one_number (codes "repeated node number") n)
msh_text (msh.ElementType l n) = on_line l (one_number (codes "element type") n)
msh_text (msh.UnknownNode l n) = on_line l (one_number (codes "unknown node") n)
msh_text (msh.RepeatedNode l n) = on_line l (one_number (codes "repeated node") n)
msh_text (msh.Components l n) = on_line l (one_number (codes "components") n)
msh_text (msh.UnknownNumber l n) = on_line l (one_number (codes "unknown number") n)
msh_text (msh.OutOfRange l) = on_line l (codes "out of range")
msh_text (msh.TooMany l what) = on_line l (what_text what)
msh_text msh.NoMemory = []

unfoldable pub mesh_text : MeshFault → List ℕ
mesh_text (mesh.NoCells greatest) = one_number (codes "no cells") greatest
mesh_text mesh.TooManyCells = codes "too many cells"
mesh_text (mesh.CellTwist element earlier) = one_number (one_number (codes "cell twist") element) earlier
mesh_text mesh.NoMemory = []

-- what stands after `refused: plan`
unfoldable pub plan_text : PlanFault → List ℕ
plan_text (plan.Word l) = on_line l (codes "word")
plan_text (plan.Ranks l n) = on_line l (one_number (codes "ranks") n)
plan_text (plan.NoPart l) = on_line l (codes "no part")
plan_text (plan.Steps l) = on_line l (codes "steps")
plan_text (plan.Overlap l n) = on_line l (one_number (codes "overlap") n)
plan_text (plan.Dofs l) = on_line l (codes "dofs")
plan_text (plan.PartLength l want got) = on_line l (one_number (one_number (codes "part length") got ++ codes " want") want)
plan_text (plan.PartRank l n) = on_line l (one_number (codes "part rank") n)
plan_text (plan.Weight l cells ranks) = on_line l (one_number (one_number (codes "weight") cells) ranks)
plan_text (plan.NotYet l) = on_line l (codes "not yet")
plan_text plan.NoMemory = []

abbrev pub msh_refused : MshFault → List ℕ
msh_refused fault = line (codes "refused: mesh " ++ msh_text fault)

abbrev pub mesh_refused : MeshFault → List ℕ
mesh_refused fault = line (codes "refused: mesh " ++ mesh_text fault)

abbrev pub plan_refused : PlanFault → List ℕ
plan_refused fault = line (codes "refused: plan " ++ plan_text fault)

-- the key 64c + 1 + f of face f of cell c
unfoldable pub twist_refused : ℕ → List ℕ
twist_refused key = line (one_number (one_number (codes "refused: twist cell") (key / 64) ++ codes " face") (key % 64 - 1))

-- ---- the first that stands

pub record Refusal : Type 0 where
  pub status : Status
  pub text : List ℕ

abbrev pub refuse : {A : Type 0} → Status → List ℕ → Result A Refusal
refuse status text = Err (record { status = status; text = text })

-- what is to be done, where nothing is refused
pub record Task : Type 0 where
  pub mesh : Mesh
  pub plan : Plan
  pub summary : Bool

-- what there is, else the refusal of its fault
abbrev pub or_refuse : {A E : Type 0} → Status → (E → List ℕ) → Result A E → Result A Refusal
or_refuse status text (Ok x) = Ok x
or_refuse status text (Err e) = refuse status (text e)

-- the bytes of a file that is there, or not
abbrev pub short_file : List ℕ → Option (List ℕ) → Result (List ℕ) Refusal
short_file name None = refuse status.ReadFault (read_refused name)
short_file name (Some bytes) = if nat_lt most_bytes (length bytes) then refuse status.TooLong (too_long_refused name) else Ok bytes

abbrev pub mesh_in : List ℕ → Result Mesh Refusal
mesh_in bytes = or_refuse status.Mesh msh_refused (content bytes) >>= (λ c. or_refuse status.Mesh mesh_refused (accepted c))

-- where the files that are asked for are there: the plan or its refusal, and the mesh or its refusal
abbrev pub plan_asked : (List ℕ → Result Plan PlanFault) → Option (List ℕ) → Option (List ℕ) → Result (Result Plan Refusal) Refusal
plan_asked read None file = Ok (Ok plain_plan)
plan_asked read (Some name) file = map_ok (λ bytes. or_refuse status.Plan plan_refused (read bytes)) (short_file name file)

abbrev pub mesh_asked : Source → Option (List ℕ) → Result (Result Mesh Refusal) Refusal
mesh_asked (File name) file = map_ok mesh_in (short_file name file)
mesh_asked (Made kind n) file = Ok (Ok (made kind n))

-- what is to be done, unless the plan does not fit the mesh
abbrev pub where_fits : Bool → Plan → Mesh → Result Task Refusal
where_fits summary plan mesh = or_refuse status.Plan plan_refused (unless (misfit plan (length mesh.cells)) (record { mesh = mesh; plan = plan; summary = summary }))

-- What words, the plan's file and the mesh's file ask for, or the first refusal that stands but for a twist of the mesh. A
-- file is its bytes, where it is there; one that is not asked for says nothing. `read` is how a plan is read.
unfoldable pub task_by : (List ℕ → Result Plan PlanFault) → List (List ℕ) → Option (List ℕ) → Option (List ℕ) → Result Task Refusal
task_by read words plan_file mesh_file = do
  asked ← or_refuse status.Words (λ refused. refused) (ok_or (request words) words_refused)
  plan_or ← plan_asked read asked.plan plan_file
  mesh_or ← mesh_asked asked.source mesh_file
  plan ← plan_or
  mesh ← mesh_or
  where_fits asked.summary plan mesh

abbrev pub fitting_task : List (List ℕ) → Option (List ℕ) → Option (List ℕ) → Result Task Refusal
fitting_task = task_by plan_of

-- unless the mesh has a twist key
abbrev pub where_even : Task → Result Task Refusal
where_even t = or_refuse status.Mesh twist_refused (unless (twist_key t.mesh) t)

-- what words and files ask for, or the first refusal that stands
unfoldable pub task : List (List ℕ) → Option (List ℕ) → Option (List ℕ) → Result Task Refusal
task words plan_file mesh_file = fitting_task words plan_file mesh_file >>= where_even

-- the refusal, or none
abbrev pub refusal : List (List ℕ) → Option (List ℕ) → Option (List ℕ) → Option Refusal
refusal words plan_file mesh_file = result_err (task words plan_file mesh_file)
