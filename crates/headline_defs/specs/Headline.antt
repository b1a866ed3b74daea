-- What one call to the top promises, over what is seen of it from outside. It is what the contract of the call will be.
use Rattle.std.specs.Prelude.{◌≡◌, ◌⊎◌, ℕ, List, [], ◌∷◌, ◌++◌, Option, Some, None, Result, Ok, Err, Contains}
use Rattle.cause_defs.specs.Told.{Told, untold, absent, told, IsWhereTold}
use Rattle.cause_defs.specs.Faults.{Rises}
use Rattle.cause_defs.specs.Written.{appended, AppendsPart, AreFlushed}
use Rattle.input_defs.specs.text_defs.Refusals.{read_refused}
use Rattle.sf_defs.specs.Rounds.{Round}
use Rattle.input_defs.specs.declared.Status.{Status}
use Rattle.input_defs.specs.declared.Status.TheVariants.{Done, Words, Plan, Mesh, ReadFault, WriteFault, NoMemory, TooLong}
use Rattle.input_defs.specs.Refused.{Task, Refusal, where_even}
use Rattle.input_defs.specs.Causes.{◌>>=◌}
use Rattle.input_defs.specs.States.{first_ranks}
use Rattle.headline_defs.specs.Rounds.{Due, Keys, due, AreFirst, AreAll}
use Rattle.headline_defs.specs.StepText.{Subject, whole_text, known_text}

-- ---- what is seen

-- The words; the bytes under each name, as the shelf tells them; how often the shelf has failed, before and after, and the
-- name that failed last; how often the sink has failed, and what it has written, before and after, and how much of it is
-- flushed; the rounds that the fabric keeps, before and after; and the status.
pub record Call : Type 0 where
  pub words : List (List ℕ)
  pub file : List ℕ → Told (List ℕ)
  pub shelf_before : ℕ
  pub shelf_after : ℕ
  pub last_failed : Told (List ℕ)
  pub sink_before : ℕ
  pub sink_after : ℕ
  pub written_before : Option (List ℕ)
  pub written_after : Option (List ℕ)
  pub flushed : ℕ
  pub kept_before : List Round
  pub kept_after : List Round
  pub status : Status

-- The bytes of the plan's file and of the mesh's file, of each where it is there.
pub record AskedFiles : Type 0 where
  pub plan : Option (List ℕ)
  pub mesh : Option (List ℕ)

-- what there is, in accord with what is told of it
abbrev pub IsFileWhereTold : Told (List ℕ) → Option (List ℕ) → Type 0
IsFileWhereTold untold file = Unit {0}
IsFileWhereTold absent file = file ≡ None
IsFileWhereTold (told bytes) file = file ≡ Some bytes

-- what there is under a name, in accord with what is told there; where no file is asked for, nothing is told of it
abbrev pub IsFileNamed : (List ℕ → Told (List ℕ)) → Option (List ℕ) → Option (List ℕ) → Type 0
IsFileNamed file None bytes = Unit {0}
IsFileNamed file (Some name) bytes = IsFileWhereTold (file name) bytes

-- ---- what is asked

-- What a call is asked for: the names of its files, and what these files give but for a twist of the mesh.
pub record Asking : Type 0 where
  pub plan_name : Option (List ℕ)
  pub mesh_name : Option (List ℕ)
  pub fitting : Option (List ℕ) → Option (List ℕ) → Result Task Refusal

-- The files of a call, each in accord with what is told under its name. Where nothing is told of a name that is asked for
-- twice, the two files may differ: a shelf may answer two takes of one name differently.
pub record AreFiles (a : Asking) (file : List ℕ → Told (List ℕ)) (files : AskedFiles) : Type 0 where
  pub plan : IsFileNamed file a.plan_name files.plan
  pub mesh : IsFileNamed file a.mesh_name files.mesh

abbrev pub listed : Option (List ℕ) → List (List ℕ)
listed None = []
listed (Some name) = name ∷ []

-- the names that are asked for
abbrev pub names_asked : Asking → List (List ℕ)
names_asked a = listed a.plan_name ++ listed a.mesh_name

-- what files give but for a twist of the mesh
abbrev pub fitting_given : Asking → AskedFiles → Result Task Refusal
fitting_given a files = a.fitting files.plan files.mesh

-- what files give: a task, or the refusal that stands
abbrev pub given : Asking → AskedFiles → Result Task Refusal
given a files = fitting_given a files >>= where_even

abbrev pub subject_of : Task → Subject
subject_of task = record { mesh = task.mesh; plan = task.plan; show = record task.plan.shows { summary = task.summary } }

-- ---- rounds

-- The rounds that are due: none where something else than a twist is refused; the home round where the mesh has a twist;
-- else all of the plan's.
abbrev pub due_where : Result Task Refusal → Task → List Due
due_where (Err twist) task = Keys (first_ranks task.mesh task.plan) ∷ []
due_where (Ok even) task = due task.mesh task.plan

-- the rounds are the first of those that are due, each with its words and asks, and legal
abbrev pub AreFirstRounds : Result Task Refusal → List Round → Type 0
AreFirstRounds (Err refusal) added = added ≡ []
AreFirstRounds (Ok task) added = AreFirst task.mesh task.plan.ranks (due_where (where_even task) task) added

-- they are all of them
abbrev pub AreAllRounds : Result Task Refusal → List Round → Type 0
AreAllRounds (Err refusal) added = added ≡ []
AreAllRounds (Ok task) added = AreAll task.mesh task.plan.ranks (due_where (where_even task) task) added

-- ---- answers; `files` are those of the call, and `added` the rounds that it has added to those kept

-- the text has been written, and all is flushed
pub record HasAnswered (c : Call) (text : List ℕ) : Type 0 where
  pub written : c.written_after ≡ appended c.written_before text
  pub flushed : AreFlushed c.written_after c.flushed

-- the whole text of the task
pub record IsDone (a : Asking) (c : Call) (files : AskedFiles) (added : List Round) : Type 0 where
  pub task : Task
  pub asked : given a files ≡ Ok task
  pub rounds : AreAllRounds (fitting_given a files) added
  pub answered : HasAnswered c (whole_text (subject_of task) added)

-- the line of a refusal of this status
pub record IsRefused (a : Asking) (c : Call) (files : AskedFiles) (added : List Round) : Type 0 where
  pub refusal : Refusal
  pub refused : given a files ≡ Err refusal
  pub status : refusal.status ≡ c.status
  pub rounds : AreAllRounds (fitting_given a files) added
  pub answered : HasAnswered c refusal.text

-- taking the file of a name that was asked for has failed: the shelf's count rose, and this is the name that failed last
pub record HasFailed (a : Asking) (c : Call) (name : List ℕ) : Type 0 where
  pub rose : Rises c.shelf_before c.shelf_after
  pub asked : Contains (names_asked a) name
  pub last : IsWhereTold c.last_failed name

-- the line for a file that could not be read
pub record IsUnread (a : Asking) (c : Call) (added : List Round) : Type 0 where
  pub name : List ℕ
  pub failed : HasFailed a c name
  pub none : added ≡ []
  pub answered : HasAnswered c (read_refused name)

-- What may have been begun: the line of the refusal that stands; the line for a file that could not be read; or as much of
-- the text as the rounds that were kept make known.
pub data MayBegin (a : Asking) (c : Call) (files : AskedFiles) (added : List Round) : List ℕ → Type 0 where
  refusing : (refusal : Refusal) → given a files ≡ Err refusal → MayBegin a c files added refusal.text
  unread : (name : List ℕ) → HasFailed a c name → MayBegin a c files added (read_refused name)
  telling : (task : Task) (text : List ℕ) → given a files ≡ Ok task → known_text (subject_of task) added ≡ Some text → MayBegin a c files added text

-- nothing has been written, or a part, from its beginning, of what may have been begun
abbrev pub WritesPart : Asking → Call → AskedFiles → List Round → Type 0
WritesPart a c files added = (c.written_after ≡ c.written_before) ⊎ ((text : List ℕ) × MayBegin a c files added text × AppendsPart c.written_before c.written_after text)

-- the sink has failed
pub record IsUnwritten (a : Asking) (c : Call) (files : AskedFiles) (added : List Round) : Type 0 where
  pub rose : Rises c.sink_before c.sink_after
  pub part : WritesPart a c files added

-- the status has its cause
abbrev pub HasCause : Asking → Call → AskedFiles → List Round → Status → Type 0
HasCause a c files added Done = IsDone a c files added
HasCause a c files added Words = IsRefused a c files added
HasCause a c files added Plan = IsRefused a c files added
HasCause a c files added Mesh = IsRefused a c files added
HasCause a c files added TooLong = IsRefused a c files added
HasCause a c files added ReadFault = IsUnread a c added
HasCause a c files added WriteFault = IsUnwritten a c files added
HasCause a c files added NoMemory = WritesPart a c files added

-- ---- completeness

-- something is told of each file that is asked for
abbrev pub IsTold : Told (List ℕ) → Type 0
IsTold untold = ⊥
IsTold absent = Unit {0}
IsTold (told bytes) = Unit {0}

abbrev pub AreTold : Asking → Call → Type 0
AreTold a c = (name : List ℕ) → Contains (names_asked a) name → IsTold (c.file name)

-- the status that files give
abbrev pub status_given : Result Task Refusal → Status
status_given (Ok task) = Done
status_given (Err refusal) = refusal.status

-- ---- the headline

-- There are files in accord with what is told, and rounds that the call has added to those kept. The rounds are the first
-- of those that are due; the status has its cause; and where the files are told and neither the shelf nor the sink has
-- failed, it is the status that the files give, or NoMemory.
pub record Headline (a : Asking) (c : Call) : Type 0 where
  pub files : AskedFiles
  pub agree : AreFiles a c.file files
  pub added : List Round
  pub kept : c.kept_after ≡ c.kept_before ++ added
  pub rounds : AreFirstRounds (fitting_given a files) added
  pub cause : HasCause a c files added c.status
  pub complete : AreTold a c → (Rises c.shelf_before c.shelf_after → ⊥) → (Rises c.sink_before c.sink_after → ⊥) → (c.status ≡ status_given (given a files)) ⊎ (c.status ≡ NoMemory)
