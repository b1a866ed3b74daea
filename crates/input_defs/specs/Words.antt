-- The words of a call, and what they ask for.
use Rattle.std.specs.Prelude.{ℕ, Bool, true, false, not, ◌&&◌, ◌==◌, nat_le, if◌then◌else◌, List, [], ◌∷◌, length, take, drop, find, get_or, codes, Option, Some, None, option_map, option_and_then, is_some}
use Rattle.std.specs.List.{list_all, before_first, after_first}
use Rattle.plain_lists.specs.Lists.{same_list}
use Rattle.input_defs.specs.line_defs.Numbers.{is_digit, number_of_digits}
use Rattle.input_defs.specs.declared.Kind.{Kind}
use Rattle.input_defs.specs.declared.Kind.TheVariants.{Tri, Quad, Tet, Hex}

-- where the mesh comes from: a file, or a kind with a number
pub data Source : Type 0 where
  File : List ℕ → Source
  Made : Kind → ℕ → Source

-- what was asked for, or what words have asked for up to here
pub record Asked : Type 0 where
  pub plan : Option (List ℕ)
  pub source : Option Source
  pub summary : Bool

pub record Request : Type 0 where
  pub plan : Option (List ℕ)
  pub source : Source
  pub summary : Bool

-- the name of the file of a mesh that is not made
abbrev pub source_name : Source → Option (List ℕ)
source_name (File name) = Some name
source_name (Made kind n) = None

-- a name is not empty and does not begin with `-`
abbrev pub is_file_name : List ℕ → Bool
is_file_name word = nat_le 1 (length word) && not (get_or word 0 0 == 45)

-- ---- `KIND:N`

-- the greatest number of each kind
abbrev pub most : Kind → ℕ
most Tri = 353
most Quad = 500
most Tet = 34
most Hex = 62

abbrev pub kinds : List (List ℕ × Kind)
kinds = (codes "tri", Tri) ∷ (codes "quad", Quad) ∷ (codes "tet", Tet) ∷ (codes "hex", Hex) ∷ []

abbrev pub kind_named : List ℕ → Option Kind
kind_named word = option_map (λ (row : List ℕ × Kind). row.1) (find (λ row. same_list row.0 word) kinds)

-- digits without a leading zero, from 1 to the greatest of the kind
abbrev pub made_of_size : Kind → List ℕ → Option Source
made_of_size kind digits =
    if nat_le 1 (length digits) && list_all is_digit digits && not (get_or digits 0 0 == 48) && nat_le (number_of_digits digits) (most kind)
    then Some (Made kind (number_of_digits digits))
    else None

unfoldable pub made_of : List ℕ → Option Source
made_of word = option_and_then (λ kind. made_of_size kind (after_first (λ b. b == 58) word)) (kind_named (before_first (λ b. b == 58) word))

-- ---- word by word, each thing at most once

-- an option whose name has to follow
pub data Flag : Type 0 where
  Plan : Flag
  Make : Flag

abbrev pub with_plan : Asked → List ℕ → Option Asked
with_plan asked name = if is_file_name name && not (is_some asked.plan) then Some (record asked { plan = Some name }) else None

abbrev pub with_source : Asked → Option Source → Option Asked
with_source asked None = None
with_source asked (Some source) = if is_some asked.source then None else Some (record asked { source = Some source })

abbrev pub with_flag : Asked → Flag → List ℕ → Option Asked
with_flag asked Plan word = with_plan asked word
with_flag asked Make word = with_source asked (made_of word)

-- no option waits after it
abbrev pub no_more : Option Asked → Option (Option Flag × Asked)
no_more = option_map (λ asked. (None, asked))

-- a word that no option waits for: what was asked with it, and the option that waits after it
unfoldable pub with_word : Asked → List ℕ → Option (Option Flag × Asked)
with_word asked word =
    if same_list word (codes "--plan") then Some (Some Plan, asked)
    else if same_list word (codes "--make") then Some (Some Make, asked)
    else if same_list word (codes "--summary") then no_more (if asked.summary then None else Some (record asked { summary = true }))
    else if same_list (take 7 word) (codes "--plan=") then no_more (with_plan asked (drop 7 word))
    else if same_list (take 7 word) (codes "--make=") then no_more (with_source asked (made_of (drop 7 word)))
    else if is_file_name word then no_more (with_source asked (Some (File word)))
    else None

-- the next word, where an option waits for it or none does
abbrev pub with_next : Asked → Option Flag → List ℕ → Option (Option Flag × Asked)
with_next asked None word = with_word asked word
with_next asked (Some flag) word = no_more (with_flag asked flag word)

-- exactly one source, and no option without its name
abbrev pub request_of : Asked → Option Flag → Option Request
request_of asked None = option_map (λ source. record { plan = asked.plan; source = source; summary = asked.summary }) asked.source
request_of asked (Some flag) = None

unfoldable pub request_from : Asked → Option Flag → List (List ℕ) → Option Request
request_from asked waiting [] = request_of asked waiting
request_from asked waiting (word ∷ words) = option_and_then (λ next. request_from next.1 next.0 words) (with_next asked waiting word)

-- what the words ask for, where they are accepted
unfoldable pub request : List (List ℕ) → Option Request
request words = request_from (record { plan = None; source = None; summary = false }) None words

-- the names of the plan's file and of the mesh's file, where the words ask for one
abbrev pub plan_name : List (List ℕ) → Option (List ℕ)
plan_name words = option_and_then (λ (r : Request). r.plan) (request words)

abbrev pub mesh_name : List (List ℕ) → Option (List ℕ)
mesh_name words = option_and_then (λ (r : Request). source_name r.source) (request words)
