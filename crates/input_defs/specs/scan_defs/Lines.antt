-- The lines of a file with their places and numbers, after the MSH format of the Gmsh manual. A place counts the bytes
-- before it.
use Rattle.std.specs.Prelude.{ℕ, ◌+◌, ◌-◌, Bool, not, List, [], ◌∷◌, length, take, drop, reverse, count_by, take_while, min}
use Rattle.std.specs.List.{list_all, prefix_len, suffix_len, before_first}
use Rattle.input_defs.specs.line_defs.Rows.{is_blank, is_newline, lines_of}

-- a line, or what is left of one: the place of its first byte, its number in the file, and its bytes without LF
pub record Line : Type 0 where
  pub start : ℕ
  pub number : ℕ
  pub text : List ℕ

-- texts as lines one after the other, an LF between two of them; the first has this place and this number
abbrev pub lines_at : ℕ → ℕ → List (List ℕ) → List Line
lines_at start number [] = []
lines_at start number (text ∷ texts) = record { start = start; number = number; text = text } ∷ lines_at (start + length text + 1) (number + 1) texts

-- the number of the line of a place, which may be the end of the file: how many LF stand before it, and 1
unfoldable pub line_number : List ℕ → ℕ → ℕ
line_number bytes place = count_by is_newline (take place bytes) + 1

-- the lines from a place on: what is left of its line, and the lines after it
unfoldable pub lines_from : List ℕ → ℕ → List Line
lines_from bytes place = lines_at place (line_number bytes place) (lines_of (drop place bytes))

-- between the beginning of its line and the place there are only blanks
unfoldable pub is_indent : List ℕ → ℕ → Bool
is_indent bytes place = list_all is_blank (take_while (λ b. not (is_newline b)) (reverse (take place bytes)))

-- what is left of the line of a place
abbrev pub rest_of_line : List ℕ → ℕ → List ℕ
rest_of_line bytes place = before_first is_newline (drop place bytes)

-- the end of the line of a place, at its LF or at the end of the file
unfoldable pub line_end : List ℕ → ℕ → ℕ
line_end bytes place = place + length (rest_of_line bytes place)

-- the place after the line of a place
unfoldable pub place_after_line : List ℕ → ℕ → ℕ
place_after_line bytes place = min (line_end bytes place + 1) (length bytes)

-- ---- within a line: the place of its first byte that is no blank, and the place after its last one

abbrev pub front : List ℕ → ℕ
front text = prefix_len is_blank text

abbrev pub back : List ℕ → ℕ
back text = length text - suffix_len is_blank text
