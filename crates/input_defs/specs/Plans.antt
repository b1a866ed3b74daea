-- Plans: how the cells of a mesh are spread over ranks, step by step. A plan is read line by line.
use Rattle.std.specs.Prelude.{ℕ, ◌+◌, ◌*◌, ◌/◌, ◌%◌, Bool, true, false, not, ◌&&◌, ◌||◌, ◌==◌, nat_lt, nat_le, if◌then◌else◌, List, [], ◌∷◌, ◌++◌, length, map, get_or, slice_get, find, flat_map, fold, codes, Option, Some, None, option_map, is_none, Result, Ok, Err}
use Rattle.std.specs.List.{list_any, list_all}
use Rattle.plain_lists.specs.Lists.{same_list}
use Rattle.input_defs.specs.line_defs.Rows.{lines_of, tokens_of}
use Rattle.input_defs.specs.line_defs.Numbers.{is_digit, number_of_digits}
use Rattle.input_defs.specs.declared.PlanFault.{PlanFault}
use Rattle.input_defs.specs.declared.PlanFault.TheVariants.{Word, Ranks, NoPart, Overlap, Dofs, Steps, PartLength, PartRank, Weight}
use Rattle.input_defs.specs.declared.Step.{Step}
use Rattle.input_defs.specs.declared.Step.TheVariants as step
use Rattle.input_defs.specs.declared.Show.{Show}
use Rattle.input_defs.specs.Causes.{◌>>=◌, first_cause, unless}

-- how a part spreads the cells: in blocks, in stripes, or by a list with the rank of each cell
pub data Spread : Type 0 where
  Block : Spread
  Stripe : Spread
  Listed : List ℕ → Spread

-- a step: a part, or layers of overlap, where 0 drops all layers
pub data Move : Type 0 where
  Part : Spread → Move
  Layers : ℕ → Move

-- a name with a number of words at each point of dimension 0, 1, 2 and 3
pub record DofsLine : Type 0 where
  pub name : List ℕ
  pub dofs : List ℕ

-- the moves have the numbers of their lines
pub record Plan : Type 0 where
  pub ranks : ℕ
  pub moves : List (ℕ × Move)
  pub dofs : List DofsLine
  pub shows : Show

-- ---- the forms of a line

pub data Form : Type 0 where
  IsRanks : ℕ → Form
  IsMove : Move → Form
  IsDofs : DofsLine → Form
  IsShow : Show → Form

-- one to nine decimal digits
abbrev pub is_number : List ℕ → Bool
is_number token = nat_le 1 (length token) && nat_le (length token) 9 && list_all is_digit token

abbrev pub plan_numbers : List (List ℕ) → Option (List ℕ)
plan_numbers tokens = if list_all is_number tokens then Some (map number_of_digits tokens) else None

abbrev pub showing : Bool → Bool → Bool → Bool → Bool → Show
showing points local closure trace windows = record { points = points; local = local; closure = closure; trace = trace; windows = windows; summary = false }

abbrev pub shows_of : List (List ℕ × Show)
shows_of = (codes "points", showing true false false false false) ∷ (codes "local", showing false true false false false) ∷ (codes "closure", showing false false true false false)
    ∷ (codes "trace", showing false false false true false) ∷ (codes "windows", showing false false false false true) ∷ []

abbrev pub show_of : List (List ℕ) → Option Form
show_of (token ∷ []) = option_map (λ (row : List ℕ × Show). IsShow row.1) (find (λ row. same_list row.0 token) shows_of)
show_of _ = None

-- `part block`, `part stripe`, or `part` with at least one number
abbrev pub part_of : List (List ℕ) → Option Form
part_of [] = None
part_of (token ∷ tokens) =
    if same_list token (codes "block") && is_none (slice_get tokens 0) then Some (IsMove (Part Block))
    else if same_list token (codes "stripe") && is_none (slice_get tokens 0) then Some (IsMove (Part Stripe))
    else option_map (λ ranks. IsMove (Part (Listed ranks))) (plan_numbers (token ∷ tokens))

-- `dofs` with a name and four numbers
abbrev pub dofs_of : List (List ℕ) → Option Form
dofs_of (name ∷ d0 ∷ d1 ∷ d2 ∷ d3 ∷ []) = option_map (λ ds. IsDofs (record { name = name; dofs = ds })) (plan_numbers (d0 ∷ d1 ∷ d2 ∷ d3 ∷ []))
dofs_of _ = None

-- one number
abbrev pub with_number : (ℕ → Form) → List (List ℕ) → Option Form
with_number form (token ∷ []) = if is_number token then Some (form (number_of_digits token)) else None
with_number form _ = None

-- the form of a line that begins with this word
unfoldable pub form_of : List ℕ → List (List ℕ) → Option Form
form_of word tokens =
    if same_list word (codes "ranks") then with_number IsRanks tokens
    else if same_list word (codes "part") then part_of tokens
    else if same_list word (codes "overlap") then with_number (λ k. IsMove (Layers k)) tokens
    else if same_list word (codes "dofs") then dofs_of tokens
    else if same_list word (codes "show") then show_of tokens
    else None

-- ---- what was read up to a line

-- without ranks as long as no line has told them
pub record Before : Type 0 where
  pub ranks : Option ℕ
  pub moves : List (ℕ × Move)
  pub dofs : List DofsLine
  pub shows : Show

abbrev pub before_any_line : Before
before_any_line = record { ranks = None; moves = []; dofs = []; shows = showing false false false false false }

abbrev pub is_letter : ℕ → Bool
is_letter b = (nat_le 65 b && nat_le b 90) || (nat_le 97 b && nat_le b 122) || is_digit b || (b == 95)

-- 1 to 32 letters, digits or `_`
abbrev pub is_field_name : List ℕ → Bool
is_field_name name = nat_le 1 (length name) && nat_le (length name) 32 && list_all is_letter name

abbrev pub both : Show → Show → Show
both a b = showing (a.points || b.points) (a.local || b.local) (a.closure || b.closure) (a.trace || b.trace) (a.windows || b.windows)

-- the layers since the last part or `overlap 0`, after one more move
abbrev pub layers_with : ℕ → Move → ℕ
layers_with layers (Part spread) = 0
layers_with layers (Layers k) = if k == 0 then 0 else layers + k

abbrev pub layers_of : List (ℕ × Move) → ℕ
layers_of moves = fold (λ layers (m : ℕ × Move). layers_with layers m.1) 0 moves

abbrev pub is_part : Move → Bool
is_part (Part spread) = true
is_part (Layers k) = false

-- layers stand after some part
abbrev pub has_part : Before → Bool
has_part b = list_any (λ (m : ℕ × Move). is_part m.1) b.moves

-- ---- one line

abbrev pub with_move : Before → ℕ → Move → Before
with_move b line move = record b { moves = b.moves ++ (line, move) ∷ [] }

unfoldable pub with_form : Before → ℕ → Option Form → Result Before PlanFault
with_form b line None = Err (Word line)
with_form b line (Some (IsRanks n)) = unless (first_cause ((not (is_none b.ranks), Word line) ∷ ((n == 0) || nat_lt 64 n, Ranks line n) ∷ [])) (record b { ranks = Some n })
with_form b line (Some (IsMove (Part spread))) = unless (first_cause ((is_none b.ranks, Word line) ∷ (nat_le 32 (length b.moves), Steps line) ∷ [])) (with_move b line (Part spread))
with_form b line (Some (IsMove (Layers k))) = unless
    (first_cause ((not (has_part b), NoPart line) ∷ (nat_le 32 (length b.moves), Steps line)
    ∷ (nat_lt 4 (layers_with (layers_of b.moves) (Layers k)), Overlap line (layers_with (layers_of b.moves) (Layers k))) ∷ []))
    (with_move b line (Layers k))
with_form b line (Some (IsDofs d)) = unless (first_cause ((not (is_field_name d.name) || list_any (λ (e : DofsLine). same_list e.name d.name) b.dofs || list_any (λ n. nat_lt 16 n) d.dofs || nat_le 8 (length b.dofs), Dofs line) ∷ [])) (record b { dofs = b.dofs ++ d ∷ [] })
with_form b line (Some (IsShow s)) = Ok (record b { shows = both b.shows s })

-- the first word of a line that says nothing begins with `#`
abbrev pub is_comment : List ℕ → Bool
is_comment word = get_or word 0 0 == 35

-- a line without words says nothing either
abbrev pub with_line : Before → ℕ → List (List ℕ) → Result Before PlanFault
with_line b line [] = Ok b
with_line b line (word ∷ tokens) = if is_comment word then Ok b else with_form b line (form_of word tokens)

-- ---- a plan

-- what is read where a plan ends on this line: there is a part, and so are the ranks
abbrev pub plan_with : Before → ℕ → Option ℕ → Result Plan PlanFault
plan_with b line None = Err (NoPart line)
plan_with b line (Some n) = unless (first_cause ((not (has_part b), NoPart line) ∷ [])) (record { ranks = n; moves = b.moves; dofs = b.dofs; shows = b.shows })

-- the lines from this number on, after what was read
unfoldable pub plan_from : Before → ℕ → ℕ → List (List ℕ) → Result Plan PlanFault
plan_from b end line [] = plan_with b end b.ranks
plan_from b end line (text ∷ texts) = with_line b line (tokens_of text) >>= (λ next. plan_from next end (line + 1) texts)

-- the plan that bytes say, or its first fault; its end is on the line after the last LF
unfoldable pub plan_of : List ℕ → Result Plan PlanFault
plan_of bytes = plan_from before_any_line (length (lines_of bytes)) 1 (lines_of bytes)

-- without a plan file: `ranks 1`, `part block`, `show points`
abbrev pub plain_plan : Plan
plain_plan = record { ranks = 1; moves = (2, Part Block) ∷ []; dofs = []; shows = showing true false false false false }

-- a move as a step
abbrev pub step_of : Move → Step
step_of (Part spread) = step.Part
step_of (Layers k) = step.Overlap k

-- the rank of a cell of so many, among these ranks
unfoldable pub rank_by : ℕ → Spread → ℕ → ℕ → ℕ
rank_by ranks Block cell cells = cell * ranks / cells
rank_by ranks Stripe cell cells = cell % ranks
rank_by ranks (Listed each) cell cells = get_or each cell 0

-- ---- whether it fits a mesh of so many cells

abbrev pub ranks_above : ℕ → ℕ → List ℕ → List (Bool × PlanFault)
ranks_above ranks line [] = []
ranks_above ranks line (rank ∷ others) = (nat_le ranks rank, PartRank line rank) ∷ ranks_above ranks line others

-- the ways in which a move of a line does not fit, in their order
unfoldable pub misfits : ℕ → ℕ → ℕ × Move → List (Bool × PlanFault)
misfits ranks cells (line, Part (Listed each)) = (not (length each == cells), PartLength line cells (length each)) ∷ ranks_above ranks line each
misfits ranks cells (line, Part Block) = []
misfits ranks cells (line, Part Stripe) = []
misfits ranks cells (line, Layers k) = (nat_lt 0 k && nat_lt 4000000 (cells * ranks), Weight line cells ranks) ∷ []

-- the first way in which a plan does not fit, or none
unfoldable pub misfit : Plan → ℕ → Option PlanFault
misfit plan cells = first_cause (flat_map (misfits plan.ranks cells) plan.moves)
