-- Reading a plan: what is kept of it, and what a call of the reader returned.
use Rattle.std.specs.Prelude.{◌≡◌, ◌≢◌, ℕ, if◌then◌else◌, List, [], ◌∷◌, length, map, Option, Some, None, Result, Ok, Err}
use Rattle.input_defs.specs.line_defs.Rows.{lines_of}
use Rattle.input_defs.specs.line_defs.Numbers.{number_of_digits}
use Rattle.input_defs.specs.declared.PlanFault.{PlanFault}
use Rattle.input_defs.specs.declared.PlanFault.TheVariants.{NoMemory}
use Rattle.input_defs.specs.Plans as plans
use Rattle.input_defs.specs.Plans.{Form, IsRanks, IsMove, IsDofs, IsShow, is_number}
use Rattle.plan_reader.specs.declared.moves.Spread.{Spread}
use Rattle.plan_reader.specs.declared.moves.Spread.TheVariants as spread
use Rattle.plan_reader.specs.declared.moves.Move.{Move}
use Rattle.plan_reader.specs.declared.moves.Move.TheVariants as move
use Rattle.plan_reader.specs.declared.moves.MoveLine.{MoveLine}
use Rattle.plan_reader.specs.declared.moves.DofsLine.{DofsLine}
use Rattle.plan_reader.specs.declared.forms.Form as declared
use Rattle.plan_reader.specs.declared.forms.Form.TheVariants as form

-- ---- what is kept

abbrev pub spread_view : Spread → plans.Spread
spread_view spread.Block = plans.Block
spread_view spread.Stripe = plans.Stripe
spread_view (spread.Listed list) = plans.Listed list.ranks.items

abbrev pub move_view : Move → plans.Move
move_view (move.Part spread) = plans.Part (spread_view spread)
move_view (move.Layers k) = plans.Layers k

abbrev pub move_line_view : MoveLine → ℕ × plans.Move
move_line_view m = (m.line, move_view m.what)

abbrev pub move_views : List MoveLine → List (ℕ × plans.Move)
move_views = map move_line_view

abbrev pub dofs_view : DofsLine → plans.DofsLine
dofs_view d = record { name = d.name.items; dofs = d.dofs }

abbrev pub dofs_views : List DofsLine → List plans.DofsLine
dofs_views = map dofs_view

-- ---- forms

abbrev pub form_view : declared.Form → Form
form_view (form.Ranks n) = IsRanks n
form_view (form.Move move) = IsMove (move_view move)
form_view (form.Dofs name dofs) = IsDofs (record { name = name.now; dofs = dofs })
form_view (form.Show show) = IsShow show

abbrev pub number_of : List ℕ → Option ℕ
number_of token = if is_number token then Some (number_of_digits token) else None

-- the number that stands alone
abbrev pub sole_number : List (List ℕ) → Option ℕ
sole_number (token ∷ []) = number_of token
sole_number _ = None

-- ---- lines

-- the lines of what is left, if anything is
abbrev pub lines_left : Option (List ℕ) → List (List ℕ)
lines_left None = []
lines_left (Some bytes) = lines_of bytes

abbrev pub bytes_left : Option (List ℕ) → ℕ
bytes_left None = 0
bytes_left (Some bytes) = length bytes

-- ---- what a call returned

-- the answer is the one that is wanted, up to want of memory
abbrev pub Gives : {A : Type 0} → Result A PlanFault → Result A PlanFault → Type 0
Gives (Ok x) wanted = wanted ≡ Ok x
Gives (Err e) wanted = e ≢ NoMemory → wanted ≡ Err e

-- a call that changes what it stands on to x
abbrev pub ok_as : {A : Type 0} → A → Result (Unit {0}) PlanFault → Result A PlanFault
ok_as x (Ok _) = Ok x
ok_as x (Err e) = Err e
