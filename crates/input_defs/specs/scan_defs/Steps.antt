-- What the calls of a scan answer, and where it stands after them.
use Rattle.std.specs.Prelude.{ℕ, ◌-◌, ◌==◌, Bool, false, if◌then◌else◌, List, [], ◌∷◌, length, Option, Some, None, Result, Ok, Err}
use Rattle.input_defs.specs.declared.scan_defs.Token.{Token}
use Rattle.input_defs.specs.scan_defs.Lines.{line_number, line_end, place_after_line}
use Rattle.input_defs.specs.scan_defs.Items.{Item, Header, Word, Spot}

-- the same bytes, at another place
abbrev pub moved : Spot → ℕ → Spot
moved s place = record { bytes = s.bytes; place = place }

-- the line of the header line or token that is ahead, or of the end of the file
abbrev pub line_ahead : List ℕ → List Item → ℕ
line_ahead bytes [] = line_number bytes (length bytes)
line_ahead bytes (Header name ∷ items) = name.line
line_ahead bytes (Word token ∷ items) = token.line

-- ---- the next token of the body

abbrev pub next_token : List Item → Option Token
next_token [] = None
next_token (Header name ∷ items) = None
next_token (Word token ∷ items) = Some token

-- after the token, else at the `$` of the header line that ended the body, else at the end of the bytes
abbrev pub place_after_token : Spot → List Item → ℕ
place_after_token s [] = length s.bytes
place_after_token s (Header name ∷ items) = name.start - 1
place_after_token s (Word token ∷ items) = token.end

abbrev pub ahead_after_token : List Item → List Item
ahead_after_token [] = []
ahead_after_token (Header name ∷ items) = Header name ∷ items
ahead_after_token (Word token ∷ items) = items

-- ---- the next header line

abbrev pub next_header : List Item → Option Token
next_header [] = None
next_header (Header name ∷ items) = Some name
next_header (Word token ∷ items) = next_header items

-- after that line, else at the end of the bytes
abbrev pub place_after_header : Spot → Option Token → ℕ
place_after_header s None = length s.bytes
place_after_header s (Some name) = place_after_line s.bytes name.start

abbrev pub ahead_after_header : List Item → List Item
ahead_after_header [] = []
ahead_after_header (Header name ∷ items) = items
ahead_after_header (Word token ∷ items) = ahead_after_header items

-- ---- the next quoted text

-- at the end of its line, else where the scan was
abbrev pub place_after_quoted : Spot → Result Token ℕ → ℕ
place_after_quoted s (Err line) = s.place
place_after_quoted s (Ok text) = line_end s.bytes text.start

-- the item is a token of this line
abbrev pub is_on_line : ℕ → Item → Bool
is_on_line number (Header name) = false
is_on_line number (Word token) = token.line == number

-- the items after the tokens of a line
abbrev pub after_items_on : ℕ → List Item → List Item
after_items_on number [] = []
after_items_on number (item ∷ items) = if is_on_line number item then after_items_on number items else item ∷ items

abbrev pub ahead_after_quoted : List Item → Result Token ℕ → List Item
ahead_after_quoted items (Err line) = items
ahead_after_quoted items (Ok text) = after_items_on text.line items
