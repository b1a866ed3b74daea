-- Lines, blanks and tokens of a text, after the MSH format of the Gmsh manual.
use Rattle.std.specs.Prelude.{ℕ, Bool, ◌||◌, ◌==◌, if◌then◌else◌, List, [], ◌∷◌, length, map, filter, nat_lt}
use Rattle.plain_lists.specs.Lists.{same_list}
use lib.Pointwise.{pointwise}

-- blank, tab and CR
abbrev pub is_blank : ℕ → Bool
is_blank b = (b == 32) || (b == 9) || (b == 13)

abbrev pub is_newline : ℕ → Bool
is_newline b = b == 10

-- b stands before the first of these parts
abbrev pub onto_first : ℕ → List (List ℕ) → List (List ℕ)
onto_first b [] = (b ∷ []) ∷ []
onto_first b (part ∷ parts) = (b ∷ part) ∷ parts

-- the parts between the bytes that pass the test, one more than there are of these
abbrev pub parts : (ℕ → Bool) → List ℕ → List (List ℕ)
parts test [] = [] ∷ []
parts test (b ∷ bs) = if test b then [] ∷ parts test bs else onto_first b (parts test bs)

abbrev pub is_some_bytes : List ℕ → Bool
is_some_bytes bytes = nat_lt 0 (length bytes)

-- the lines of a text: each ends at LF or at the end of the bytes
unfoldable pub lines_of : List ℕ → List (List ℕ)
lines_of text = parts is_newline text

-- the tokens of a line: the runs of bytes between blanks
unfoldable pub tokens_of : List ℕ → List (List ℕ)
tokens_of line = filter is_some_bytes (parts is_blank line)

-- the rows of a text: the tokens of each line that has any
unfoldable pub rows_of : List ℕ → List (List (List ℕ))
rows_of text = filter (λ row. nat_lt 0 (length row)) (map tokens_of (lines_of text))

-- two rows have the same tokens
abbrev pub same_row : List (List ℕ) → List (List ℕ) → Bool
same_row = pointwise same_list
