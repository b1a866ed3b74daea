-- The first word of a replay: picks, which say whose turn it is.
use Rattle.std.specs.Prelude.{ℕ, ◌==◌, if◌then◌else◌, List, [], ◌∷◌, Option, Some, None, codes}
use Rattle.plain_lists.specs.Lists.{same_list}
use Rattle.input_defs.specs.line_defs.Rows.{parts}
use Rattle.input_defs.specs.line_defs.Numbers.{numeral}

abbrev pub and_more : Option ℕ → Option (List ℕ) → Option (List ℕ)
and_more (Some n) (Some ns) = Some (n ∷ ns)
and_more _ _ = None

-- each is one to nine digits without a leading zero
abbrev pub numerals : List (List ℕ) → Option (List ℕ)
numerals [] = Some []
numerals (token ∷ tokens) = and_more (numeral token) (numerals tokens)

-- `-` for none, or numbers with single commas between them
unfoldable pub picks_of : List ℕ → Option (List ℕ)
picks_of word = if same_list word (codes "-") then Some [] else numerals (parts (λ b. b == 44) word)
