-- Quoted texts. One stands alone on a line, or on what is left of it.
use Rattle.std.specs.Prelude.{ℕ, ◌+◌, ◌-◌, ◌==◌, ◌&&◌, Bool, not, nat_le, if◌then◌else◌, List, [], ◌∷◌, length, get_or, find, Option, Some, None, Result, Ok, Err}
use Rattle.std.specs.List.{list_all}
use Rattle.input_defs.specs.line_defs.Rows.{is_blank}
use Rattle.input_defs.specs.declared.scan_defs.Token.{Token}
use Rattle.input_defs.specs.scan_defs.Lines.{Line, line_number, lines_from, rest_of_line, front, back}
use Rattle.input_defs.specs.scan_defs.Items.{Item, Header, Word, Spot}

-- blanks, `"`, the text up to the last `"` of the line, which is another one than the first, blanks
abbrev pub is_quoted : List ℕ → Bool
is_quoted text = nat_le (front text + 2) (back text) && ((get_or text (front text) 0 == 34) && (get_or text (back text - 1) 0 == 34))

-- the text between the quotes
unfoldable pub quoted_on : Line → Option Token
quoted_on line = if is_quoted line.text then Some (record { start = line.start + front line.text + 1; end = line.start + back line.text - 1; line = line.number }) else None

abbrev pub or_line : ℕ → Option Token → Result Token ℕ
or_line number None = Err number
or_line number (Some token) = Ok token

-- ---- from a place on

-- the quoted text of the line that is looked at, which may be the end of the file, or its number
abbrev pub quoted_where : ℕ → Option Line → Result Token ℕ
quoted_where last None = Err last
quoted_where last (Some line) = or_line line.number (quoted_on line)

-- What is looked at is the rest of the line and, where that is blank, the next line that is not blank, which may be a
-- header line; where there is none it is the end of the file.
unfoldable pub quoted_from : Spot → Result Token ℕ
quoted_from s = quoted_where (line_number s.bytes (length s.bytes)) (find (λ line. not (list_all is_blank line.text)) (lines_from s.bytes s.place))

-- ---- the same by items, for readers that go along them: a quoted text begins where the next token does

-- what is left of the line of a token, from its first byte on
abbrev pub line_from : List ℕ → Token → Line
line_from bytes token = record { start = token.start; number = token.line; text = rest_of_line bytes token.start }

unfoldable pub quoted_in : List ℕ → List Item → Result Token ℕ
quoted_in bytes [] = Err (line_number bytes (length bytes))
quoted_in bytes (Header name ∷ items) = Err name.line
quoted_in bytes (Word token ∷ items) = or_line token.line (quoted_on (line_from bytes token))
