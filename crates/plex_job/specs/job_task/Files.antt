-- Files that are taken from a shelf, and why one was not.
use Rattle.std.specs.Prelude.{◌≡◌, ℕ, ◌+◌, ◌≤◌, List, length, Option, Some, None, option_map, Result, Ok, Err}
use Rattle.std.specs.declared.vec.Vec.{Vec}
use Rattle.std.specs.declared.alloc.Global.{Global}
use Rattle.cause_defs.specs.Told.{Told, IsWhereTold, IsFrontWhereTold}
use Rattle.input_defs.specs.text_defs.Refusals.{most_bytes}
use Rattle.input_defs.specs.Words as words
use Rattle.report.specs.declared.refusal.Refusal.TheVariants.{Words, Read, TooLong, Plan, Msh, Mesh, Twist}
use Rattle.plex_job.specs.declared.job_task.stop.Stop.{Stop}
use Rattle.plex_job.specs.declared.job_task.stop.Stop.TheVariants.{Refused, NoMemory}
use Rattle.plex_job.specs.declared.job_task.files.Input.{Input}
use Rattle.plex_job.specs.declared.job_task.files.Input.TheVariants.{File, Made}

-- a whole file of at most the limit, in accord with what is told of it
pub record IsShortFile (there : Told (List ℕ)) (bytes : List ℕ) : Type 0 where
  pub short : length bytes ≤ most_bytes
  pub taken : IsWhereTold there bytes

-- the file has more bytes than the limit
pub record IsLongFile (there : Told (List ℕ)) : Type 0 where
  pub front : List ℕ
  pub longer : length front ≡ most_bytes + 1
  pub taken : IsFrontWhereTold there (most_bytes + 1) front

-- why the file of this name was not taken; `failed` tells that taking the file of a name has failed
abbrev pub IsUntaken : Told (List ℕ) → List ℕ → (List ℕ → Type 0) → Stop → Type 0
IsUntaken there name failed NoMemory = Unit {0}
IsUntaken there name failed (Refused Words) = ⊥
IsUntaken there name failed (Refused (Read named)) = (named.now ≡ name) × failed name
IsUntaken there name failed (Refused (TooLong named)) = (named.now ≡ name) × IsLongFile there
IsUntaken there name failed (Refused (Plan fault)) = ⊥
IsUntaken there name failed (Refused (Msh fault)) = ⊥
IsUntaken there name failed (Refused (Mesh fault)) = ⊥
IsUntaken there name failed (Refused (Twist key)) = ⊥

-- the fact holds unless taking a file has failed, or memory ran out
abbrev pub UnlessUnread : {A : Type 0} → Result A Stop → Type 0 → Type 0
UnlessUnread (Ok x) P = P
UnlessUnread (Err NoMemory) P = Unit {0}
UnlessUnread (Err (Refused Words)) P = P
UnlessUnread (Err (Refused (Read name))) P = Unit {0}
UnlessUnread (Err (Refused (TooLong name))) P = P
UnlessUnread (Err (Refused (Plan fault))) P = P
UnlessUnread (Err (Refused (Msh fault))) P = P
UnlessUnread (Err (Refused (Mesh fault))) P = P
UnlessUnread (Err (Refused (Twist key))) P = P

-- ---- the two files; `file` tells the bytes under a name

abbrev pub bytes_of : Option (Vec ℕ Global) → Option (List ℕ)
bytes_of file = option_map (λ (v : Vec ℕ Global). v.items) file

-- the file of a name, where one is asked for
abbrev pub IsTaken : (List ℕ → Told (List ℕ)) → Option (List ℕ) → Option (List ℕ) → Type 0
IsTaken file None bytes = bytes ≡ None
IsTaken file (Some name) None = ⊥
IsTaken file (Some name) (Some bytes) = IsShortFile (file name) bytes

abbrev pub IsStopAt : (List ℕ → Told (List ℕ)) → (List ℕ → Type 0) → Option (List ℕ) → Stop → Type 0
IsStopAt file failed None stop = ⊥
IsStopAt file failed (Some name) stop = IsUntaken (file name) name failed stop

-- what a mesh is made of is what is asked for
abbrev pub IsInput : (List ℕ → Told (List ℕ)) → words.Source → Input → Type 0
IsInput file (words.File name) (File bytes) = IsShortFile (file name) bytes.items
IsInput file (words.File name) (Made kind n) = ⊥
IsInput file (words.Made kind n) (File bytes) = ⊥
IsInput file (words.Made kind n) (Made made m) = (made ≡ kind) × (m ≡ n)
