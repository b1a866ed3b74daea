-- Header lines and tokens in the order of the file. A body is the tokens up to the next header line.
use Rattle.std.specs.Prelude.{ℕ, ◌+◌, ◌==◌, Bool, if◌then◌else◌, List, [], ◌∷◌, ◌++◌, length, map, flat_map, get_or, slice_range}
use Rattle.input_defs.specs.line_defs.Rows.{is_blank, parts, is_some_bytes}
use Rattle.input_defs.specs.declared.scan_defs.Token.{Token}
use Rattle.input_defs.specs.scan_defs.Lines.{Line, lines_from, is_indent, front, back}

-- the bytes of a token
abbrev pub text_of : List ℕ → Token → List ℕ
text_of bytes token = slice_range bytes token.start token.end

-- ---- a line

-- its first byte that is no blank is `$`
abbrev pub is_header : List ℕ → Bool
is_header text = get_or text (front text) 0 == 36

-- the name on a header line: what follows the `$`, without blanks at its end
unfoldable pub name_of : Line → Token
name_of line = record { start = line.start + front line.text + 1; end = line.start + back line.text; line = line.number }

-- the runs of bytes of a line, a blank between two of them, as tokens where they are not empty; the first begins here
abbrev pub tokens_at : ℕ → ℕ → List (List ℕ) → List Token
tokens_at start number [] = []
tokens_at start number (run ∷ runs) =
    (if is_some_bytes run then record { start = start; end = start + length run; line = number } ∷ [] else []) ++ tokens_at (start + length run + 1) number runs

-- the tokens of a line: its runs of bytes that are no blanks
unfoldable pub tokens_on : Line → List Token
tokens_on line = tokens_at line.start line.number (parts is_blank line.text)

-- ---- a file

-- a header line with its name, or a token of another line
pub data Item : Type 0 where
  Header : Token → Item
  Word : Token → Item

abbrev pub words_on : Line → List Item
words_on line = map Word (tokens_on line)

unfoldable pub items_on : Line → List Item
items_on line = if is_header line.text then Header (name_of line) ∷ [] else words_on line

-- the items of lines; the first of them may be what is left of a line that has begun, and is then no header line
unfoldable pub items_of : Bool → List Line → List Item
items_of is_whole [] = []
items_of is_whole (line ∷ lines) = (if is_whole then items_on line else words_on line) ++ flat_map items_on lines

-- a place in the bytes of a file
pub record Spot : Type 0 where
  pub bytes : List ℕ
  pub place : ℕ

-- what stands ahead of a place
unfoldable pub ahead : Spot → List Item
ahead s = items_of (is_indent s.bytes s.place) (lines_from s.bytes s.place)

-- the items of a whole file
abbrev pub items : List ℕ → List Item
items bytes = ahead (record { bytes = bytes; place = 0 })

-- ---- a body

abbrev pub body : List Item → List Token
body [] = []
body (Header name ∷ items) = []
body (Word token ∷ items) = token ∷ body items

abbrev pub after_body : List Item → List Item
after_body [] = []
after_body (Header name ∷ items) = Header name ∷ items
after_body (Word token ∷ items) = after_body items
