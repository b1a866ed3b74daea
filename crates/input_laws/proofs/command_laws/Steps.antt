-- The walk of `clap` over one word.
use Rattle.std.proofs.Common.{◌≡◌, ℕ, Bool, true, false, List, [], ◌∷◌, codes, Option, Some, None, refl}
use Rattle.std.specs.Prelude.{slice_get, if◌then◌else◌}
use Rattle.std.specs.Str.{bytes_eq, chars}
use Rattle.clap.specs.Walk.{Row, Text, Waiting, Walk, bundle_met, has_row, idle, option, positional, walked, with_values}
use Rattle.clap.specs.Simple.{Shape, built}
use Rattle.clap.specs.Lexer.{long_of, short_of}
use Rattle.clap.specs.Faults.{flags_fault, turn_fault}
use Rattle.clap.specs.Kinds.{Kinds}
use Rattle.clap.specs.declared.builder.value_parser.Reading.TheVariants.{AsWritten}
use Rattle.clap.specs.declared.parser.matches.ValueSource.TheVariants.{CommandLine}
use Rattle.input_laws.specs.command_laws.Command.{command, passes}
use Rattle.input_laws.proofs.command_laws.Values.{without_none}

abbrev pub top : Shape
top = (built command).top

-- what was read last, which the next word settles
pub data Last : Type 0 where
  nothing : Last
  planned : Text → Last
  made : Text → Last
  meshed : Text → Last

abbrev pub pending_at : Last → Option (Text × List Text)
pending_at nothing = None
pending_at (planned v) = Some (codes "plan", v ∷ [])
pending_at (made v) = Some (codes "make", v ∷ [])
pending_at (meshed v) = Some (codes "mesh", v ∷ [])

abbrev pub waiting_at : Last → Waiting
waiting_at (meshed v) = positional
waiting_at _ = idle

abbrev pub walk_at : List Row → Option (Text × List Text) → Waiting → Walk
walk_at rows pending waiting = record { held = record { rows = rows; pending = pending; skip = 0 }; waiting = waiting; position = 1; is_trailing = false; stopped = None }

-- no option waits
abbrev pub on : List Row → Last → Walk
on rows last = walk_at rows (pending_at last) (waiting_at last)

-- an option waits for its value
abbrev pub waits : List Row → Text → Walk
waits rows id = walk_at rows (Some (id, [])) (option id)

abbrev pub with_value : Text → Text → List Row → List Row
with_value id v = with_values id AsWritten CommandLine (v ∷ [])

-- the rows once what was read last is settled
abbrev pub rows_on : List Row → Last → List Row
rows_on rows nothing = rows
rows_on rows (planned v) = with_value (codes "plan") v rows
rows_on rows (made v) = with_value (codes "make") v rows
rows_on rows (meshed v) = with_value (codes "mesh") v rows

abbrev pub Fails : Kinds → Type 0
Fails kinds = passes kinds ≡ false

abbrev pub Goes : Walk → Text → Walk → Type 0
Goes w word after = (walked top.rules [] w word ≡ after) × (turn_fault top [] w word ≡ [])

pub plan_waits : (rows : List Row) (last : Last) (word : Text) → long_of word ≡ Some (codes "plan", None) → bytes_eq word (45 ∷ 45 ∷ []) ≡ false → Goes (on rows last) word (waits (rows_on rows last) (codes "plan"))
unfolding walked
plan_waits rows nothing word e d = (rw (d, e) refl, rw (d, e) refl)
plan_waits rows (planned v) word e d = (rw (d, e) refl, rw (d, e) refl)
plan_waits rows (made v) word e d = (rw (d, e) refl, rw (d, e) refl)
plan_waits rows (meshed v) word e d = (rw (d, e) refl, rw (d, e) refl)

pub plan_with : (rows : List Row) (last : Last) (word value : Text) → long_of word ≡ Some (codes "plan", Some value) → bytes_eq word (45 ∷ 45 ∷ []) ≡ false → Goes (on rows last) word (on (with_value (codes "plan") value (rows_on rows last)) nothing)
unfolding walked
plan_with rows nothing word value e d = (rw (d, e) refl, rw (d, e) refl)
plan_with rows (planned v) word value e d = (rw (d, e) refl, rw (d, e) refl)
plan_with rows (made v) word value e d = (rw (d, e) refl, rw (d, e) refl)
plan_with rows (meshed v) word value e d = (rw (d, e) refl, rw (d, e) refl)

pub make_waits : (rows : List Row) (last : Last) (word : Text) → long_of word ≡ Some (codes "make", None) → bytes_eq word (45 ∷ 45 ∷ []) ≡ false → Goes (on rows last) word (waits (rows_on rows last) (codes "make"))
unfolding walked
make_waits rows nothing word e d = (rw (d, e) refl, rw (d, e) refl)
make_waits rows (planned v) word e d = (rw (d, e) refl, rw (d, e) refl)
make_waits rows (made v) word e d = (rw (d, e) refl, rw (d, e) refl)
make_waits rows (meshed v) word e d = (rw (d, e) refl, rw (d, e) refl)

pub make_with : (rows : List Row) (last : Last) (word value : Text) → long_of word ≡ Some (codes "make", Some value) → bytes_eq word (45 ∷ 45 ∷ []) ≡ false → Goes (on rows last) word (on (with_value (codes "make") value (rows_on rows last)) nothing)
unfolding walked
make_with rows nothing word value e d = (rw (d, e) refl, rw (d, e) refl)
make_with rows (planned v) word value e d = (rw (d, e) refl, rw (d, e) refl)
make_with rows (made v) word value e d = (rw (d, e) refl, rw (d, e) refl)
make_with rows (meshed v) word value e d = (rw (d, e) refl, rw (d, e) refl)

pub summary_first : (rows : List Row) (last : Last) (word : Text) → long_of word ≡ Some (codes "summary", None) → bytes_eq word (45 ∷ 45 ∷ []) ≡ false → has_row (codes "summary") (rows_on rows last) ≡ false → Goes (on rows last) word (on (with_value (codes "summary") (codes "true") (rows_on rows last)) nothing)
unfolding walked
summary_first rows nothing word e d none = (rw (d, e, without_none (codes "summary") _ none) refl, rw (d, e, none) refl)
summary_first rows (planned v) word e d none = (rw (d, e, without_none (codes "summary") _ none) refl, rw (d, e, none) refl)
summary_first rows (made v) word e d none = (rw (d, e, without_none (codes "summary") _ none) refl, rw (d, e, none) refl)
summary_first rows (meshed v) word e d none = (rw (d, e, without_none (codes "summary") _ none) refl, rw (d, e, none) refl)

pub summary_again : (rows : List Row) (last : Last) (word : Text) → long_of word ≡ Some (codes "summary", None) → bytes_eq word (45 ∷ 45 ∷ []) ≡ false → has_row (codes "summary") (rows_on rows last) ≡ true → Fails (turn_fault top [] (on rows last) word)
unfolding walked
summary_again rows nothing word e d some = rw (d, e, some) refl
summary_again rows (planned v) word e d some = rw (d, e, some) refl
summary_again rows (made v) word e d some = rw (d, e, some) refl
summary_again rows (meshed v) word e d some = rw (d, e, some) refl

pub summary_with : (rows : List Row) (last : Last) (word value : Text) → long_of word ≡ Some (codes "summary", Some value) → bytes_eq word (45 ∷ 45 ∷ []) ≡ false → Fails (turn_fault top [] (on rows last) word)
unfolding walked
summary_with rows nothing word value e d = rw (d, e) refl
summary_with rows (planned v) word value e d = rw (d, e) refl
summary_with rows (made v) word value e d = rw (d, e) refl
summary_with rows (meshed v) word value e d = rw (d, e) refl

pub other_long : (rows : List Row) (last : Last) (word name : Text) (value : Option Text) → long_of word ≡ Some (name, value) → bytes_eq word (45 ∷ 45 ∷ []) ≡ false → bytes_eq (codes "plan") name ≡ false → bytes_eq (codes "make") name ≡ false → bytes_eq (codes "summary") name ≡ false → Fails (turn_fault top [] (on rows last) word)
unfolding walked
other_long rows nothing word name value e d p m s = rw (d, e, p, m, s) refl
other_long rows (planned v) word name value e d p m s = rw (d, e, p, m, s) refl
other_long rows (made v) word name value e d p m s = rw (d, e, p, m, s) refl
other_long rows (meshed v) word name value e d p m s = rw (d, e, p, m, s) refl

pub plain : (rows : List Row) (last : Last) (word : Text) → long_of word ≡ None → short_of word ≡ None → bytes_eq word (45 ∷ 45 ∷ []) ≡ false → Goes (on rows last) word (on (rows_on rows last) (meshed word))
unfolding walked
plain rows nothing word e f d = (rw (d, e, f) refl, rw (d, e, f) refl)
plain rows (planned v) word e f d = (rw (d, e, f) refl, rw (d, e, f) refl)
plain rows (made v) word e f d = (rw (d, e, f) refl, rw (d, e, f) refl)
plain rows (meshed v) word e f d = (rw (d, e, f) refl, rw (d, e, f) refl)

pub no_bundle : (rows : List Row) (last : Last) (word : Text) (x : ℕ) (xs : Text) → long_of word ≡ None → short_of word ≡ Some (x ∷ xs) → slice_get (chars (x ∷ xs)) 0 ≡ None → bytes_eq word (45 ∷ 45 ∷ []) ≡ false → Goes (on rows last) word (on (rows_on rows last) (meshed word))
unfolding walked bundle_met flags_fault
no_bundle rows nothing word x xs e f none d = (rw (d, e, f, none) refl, rw (d, e, f, none) refl)
no_bundle rows (planned v) word x xs e f none d = (rw (d, e, f, none) refl, rw (d, e, f, none) refl)
no_bundle rows (made v) word x xs e f none d = (rw (d, e, f, none) refl, rw (d, e, f, none) refl)
no_bundle rows (meshed v) word x xs e f none d = (rw (d, e, f, none) refl, rw (d, e, f, none) refl)

pub bundle_fails : (rows : List Row) (last : Last) (word : Text) (x : ℕ) (xs : Text) (c : ℕ) → long_of word ≡ None → short_of word ≡ Some (x ∷ xs) → slice_get (chars (x ∷ xs)) 0 ≡ Some c → bytes_eq word (45 ∷ 45 ∷ []) ≡ false → Fails (turn_fault top [] (on rows last) word)
unfolding bundle_met flags_fault
bundle_fails rows nothing word x xs c e f some d = rw (d, e, f, some) refl
bundle_fails rows (planned v) word x xs c e f some d = rw (d, e, f, some) refl
bundle_fails rows (made v) word x xs c e f some d = rw (d, e, f, some) refl
bundle_fails rows (meshed v) word x xs c e f some d = rw (d, e, f, some) refl

-- ---- an option that waits for its value

pub plan_value : (rows : List Row) (word : Text) → long_of word ≡ None → short_of word ≡ None → bytes_eq word (45 ∷ 45 ∷ []) ≡ false → Goes (waits rows (codes "plan")) word (on rows (planned word))
unfolding walked
plan_value rows word e f d = (rw (d, e, f) refl, rw (d, e, f) refl)

pub make_value : (rows : List Row) (word : Text) → long_of word ≡ None → short_of word ≡ None → bytes_eq word (45 ∷ 45 ∷ []) ≡ false → Goes (waits rows (codes "make")) word (on rows (made word))
unfolding walked
make_value rows word e f d = (rw (d, e, f) refl, rw (d, e, f) refl)

pub plan_no_bundle : (rows : List Row) (word : Text) (x : ℕ) (xs : Text) → long_of word ≡ None → short_of word ≡ Some (x ∷ xs) → slice_get (chars (x ∷ xs)) 0 ≡ None → bytes_eq word (45 ∷ 45 ∷ []) ≡ false → Goes (waits rows (codes "plan")) word (on rows (planned word))
unfolding walked bundle_met flags_fault
plan_no_bundle rows word x xs e f none d = (rw (d, e, f, none) refl, rw (d, e, f, none) refl)

pub make_no_bundle : (rows : List Row) (word : Text) (x : ℕ) (xs : Text) → long_of word ≡ None → short_of word ≡ Some (x ∷ xs) → slice_get (chars (x ∷ xs)) 0 ≡ None → bytes_eq word (45 ∷ 45 ∷ []) ≡ false → Goes (waits rows (codes "make")) word (on rows (made word))
unfolding walked bundle_met flags_fault
make_no_bundle rows word x xs e f none d = (rw (d, e, f, none) refl, rw (d, e, f, none) refl)

pub plan_bundle : (rows : List Row) (word : Text) (x : ℕ) (xs : Text) (c : ℕ) → long_of word ≡ None → short_of word ≡ Some (x ∷ xs) → slice_get (chars (x ∷ xs)) 0 ≡ Some c → bytes_eq word (45 ∷ 45 ∷ []) ≡ false → Fails (turn_fault top [] (waits rows (codes "plan")) word)
unfolding bundle_met flags_fault
plan_bundle rows word x xs c e f some d = rw (d, e, f, some) refl

pub make_bundle : (rows : List Row) (word : Text) (x : ℕ) (xs : Text) (c : ℕ) → long_of word ≡ None → short_of word ≡ Some (x ∷ xs) → slice_get (chars (x ∷ xs)) 0 ≡ Some c → bytes_eq word (45 ∷ 45 ∷ []) ≡ false → Fails (turn_fault top [] (waits rows (codes "make")) word)
unfolding bundle_met flags_fault
make_bundle rows word x xs c e f some d = rw (d, e, f, some) refl

pub plan_other : (rows : List Row) (word name : Text) (value : Option Text) → long_of word ≡ Some (name, value) → bytes_eq word (45 ∷ 45 ∷ []) ≡ false → bytes_eq (codes "plan") name ≡ false → bytes_eq (codes "make") name ≡ false → bytes_eq (codes "summary") name ≡ false → Fails (turn_fault top [] (waits rows (codes "plan")) word)
plan_other rows word name value e d p m s = rw (d, e, p, m, s) refl

pub make_other : (rows : List Row) (word name : Text) (value : Option Text) → long_of word ≡ Some (name, value) → bytes_eq word (45 ∷ 45 ∷ []) ≡ false → bytes_eq (codes "plan") name ≡ false → bytes_eq (codes "make") name ≡ false → bytes_eq (codes "summary") name ≡ false → Fails (turn_fault top [] (waits rows (codes "make")) word)
make_other rows word name value e d p m s = rw (d, e, p, m, s) refl

-- an option of its own is met before the value
pub known_after : (rows : List Row) (flag : Bool) (word : Text) (key : Bool) (value : Option Text) → long_of word ≡ Some ((if key then codes "plan" else codes "make"), value) → bytes_eq word (45 ∷ 45 ∷ []) ≡ false
    → Fails (turn_fault top [] (waits rows (if flag then codes "plan" else codes "make")) word)
known_after rows true word true (Some value) e d = rw (d, e) refl
known_after rows true word true None e d = rw (d, e) refl
known_after rows true word false (Some value) e d = rw (d, e) refl
known_after rows true word false None e d = rw (d, e) refl
known_after rows false word true (Some value) e d = rw (d, e) refl
known_after rows false word true None e d = rw (d, e) refl
known_after rows false word false (Some value) e d = rw (d, e) refl
known_after rows false word false None e d = rw (d, e) refl

pub summary_after : (rows : List Row) (flag : Bool) (word : Text) (value : Option Text) → long_of word ≡ Some (codes "summary", value) → bytes_eq word (45 ∷ 45 ∷ []) ≡ false
    → Fails (turn_fault top [] (waits rows (if flag then codes "plan" else codes "make")) word)
summary_after rows true word (Some value) e d = rw (d, e) refl
summary_after rows true word None e d = rw (d, e) refl
summary_after rows false word (Some value) e d = rw (d, e) refl
summary_after rows false word None e d = rw (d, e) refl
