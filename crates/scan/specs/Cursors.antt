-- A cursor in bytes.
use Rattle.std.specs.Prelude.{◌≡◌, ℕ, ◌+◌, ◌≤◌, ◌||◌, Bool, List, length}
use Rattle.plex_base.specs.declared.limits.TheConstants.{MAX_FILE_BYTES}
use Rattle.input_defs.specs.line_defs.Rows.{is_blank, is_newline}
use Rattle.input_defs.specs.declared.scan_defs.Token.{Token}
use Rattle.input_defs.specs.scan_defs.Lines.{line_number, is_indent, rest_of_line, back}
use Rattle.input_defs.specs.scan_defs.Items.{Spot}
use Rattle.scan.specs.declared.cursor.Cursor.{Cursor}

-- a blank or an LF
abbrev pub is_gap : ℕ → Bool
is_gap b = is_blank b || is_newline b

abbrev pub spot : List ℕ → ℕ → Spot
spot bytes place = record { bytes = bytes; place = place }

-- the cursor is in the bytes, and knows its line and what stands before it there
pub record IsAt (bytes : List ℕ) (at : Cursor) : Type 0 where
  pub inside : at.place ≤ length bytes
  pub line : at.line ≡ line_number bytes at.place
  pub indent : at.is_indent ≡ is_indent bytes at.place

pub record IsScan (bytes : List ℕ) (at : Cursor) : Type 0 where
  pub short : length bytes ≤ MAX_FILE_BYTES
  pub is_at : IsAt bytes at

-- the token is a part of the bytes
pub record IsWithin (bytes : List ℕ) (token : Token) : Type 0 where
  pub ordered : token.start ≤ token.end
  pub inside : token.end ≤ length bytes

-- the name on the header line at whose `$` the cursor stands
abbrev pub header_name : List ℕ → Cursor → Token
header_name bytes at = record { start = at.place + 1; end = at.place + back (rest_of_line bytes at.place); line = at.line }
