-- A shelf in memory, as contracts see it, and what a call makes of it.
use Rattle.std.specs.Prelude.{◌≡◌, ℕ, ◌+◌, ◌≤◌, Bool, nat_eq, if◌then◌else◌, List, [], ◌∷◌, length, take, Result, Ok, Err}
use Rattle.std.specs.Cmp.Lexicographic.{pointwise}
use Rattle.std.specs.List.{list_any}
use Rattle.cause_defs.specs.Told.{Told, untold, absent, told}
use Rattle.shelf_io.specs.Counting.{count_up}
use Rattle.shelf_io.specs.declared.shelf.ShelfFault.{ShelfFault}
use Rattle.shelf_io.specs.declared.shelf.ShelfFault.TheVariants.{Failed, TooLong, NoMemory}

pub record Files : Type 0 where
  -- the files, each with the bytes of its name and its own
  pub files : List (List ℕ × List ℕ)
  -- the numbers of the calls that fail
  pub fail : List ℕ
  -- how many calls there were, up to the end of their type
  pub calls : ℕ
  -- how many calls have failed, up to the end of their type
  pub faults : ℕ
  -- the name of the last call that failed
  pub last_failed : Told (List ℕ)

-- a shelf of which nothing was taken
abbrev pub fresh_files : List (List ℕ × List ℕ) → List ℕ → Files
fresh_files files fail = record { files = files; fail = fail; calls = 0; faults = 0; last_failed = absent }

-- the file under a name: of two files of one name the first counts
abbrev pub file_under : List (List ℕ × List ℕ) → List ℕ → Told (List ℕ)
file_under [] name = absent
file_under (file ∷ files) name = if pointwise nat_eq file.0 name then told file.1 else file_under files name

-- the call with this number is listed
abbrev pub is_listed : List ℕ → ℕ → Bool
is_listed fail call = list_any (λ number. nat_eq number call) fail

-- what the shelf gives at the next call: nothing where that call is listed
abbrev pub next_file : Files → List ℕ → Told (List ℕ)
next_file s name = if is_listed s.fail s.calls then absent else file_under s.files name

-- the answer fits what the shelf gives: memory may be short at each call, Failed comes exactly
-- where there is none, and TooLong exactly where it is longer than the limit
abbrev pub Answers : {A : Type 0} → Result A ShelfFault → Told (List ℕ) → ℕ → List ℕ → Type 0
Answers (Err NoMemory) file limit bytes = Unit {0}
Answers (Err Failed) untold limit bytes = ⊥
Answers (Err Failed) absent limit bytes = Unit {0}
Answers (Err Failed) (told file) limit bytes = ⊥
Answers (Err TooLong) untold limit bytes = ⊥
Answers (Err TooLong) absent limit bytes = ⊥
Answers (Err TooLong) (told file) limit bytes = (limit + 1 ≤ length file) × (bytes ≡ take (limit + 1) file)
Answers (Ok x) untold limit bytes = ⊥
Answers (Ok x) absent limit bytes = ⊥
Answers (Ok x) (told file) limit bytes = (length file ≤ limit) × (bytes ≡ file)

-- the shelf after a call: only Failed raises the count
abbrev pub after_take : {A : Type 0} → Files → List ℕ → Result A ShelfFault → Files
after_take s name (Ok x) = record { files = s.files; fail = s.fail; calls = count_up s.calls; faults = s.faults; last_failed = s.last_failed }
after_take s name (Err Failed) = record { files = s.files; fail = s.fail; calls = count_up s.calls; faults = count_up s.faults; last_failed = told name }
after_take s name (Err TooLong) = record { files = s.files; fail = s.fail; calls = count_up s.calls; faults = s.faults; last_failed = s.last_failed }
after_take s name (Err NoMemory) = record { files = s.files; fail = s.fail; calls = count_up s.calls; faults = s.faults; last_failed = s.last_failed }
