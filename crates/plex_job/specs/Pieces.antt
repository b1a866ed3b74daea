-- What is left of a list of picks.
use Rattle.std.specs.Prelude.{ℕ, ◌==◌, List, [], ◌++◌, Option, Some, None, option_map}
use Rattle.input_defs.specs.line_defs.Rows.{parts}

-- the parts of what is left, if anything is
abbrev pub parts_left : Option (List ℕ) → List (List ℕ)
parts_left None = []
parts_left (Some rest) = parts (λ b. b == 44) rest

-- these before others
abbrev pub before_others : List ℕ → Option (List ℕ) → Option (List ℕ)
before_others picks others = option_map (λ ns. picks ++ ns) others
