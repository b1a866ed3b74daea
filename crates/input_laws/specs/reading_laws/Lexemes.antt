-- The body in which a scan stands, as a section reads it, and what stands after that body.
use Rattle.std.specs.Prelude.{◌≡◌, ℕ, List, ◌∷◌, map}
use Rattle.input_defs.specs.scan_defs.Items.{Item, Spot, ahead, body, after_body}
use Rattle.input_defs.specs.scan_defs.Steps.{line_ahead, place_after_token}
use Rattle.input_defs.specs.Bodies.{Lexeme, lexeme_of}

-- the tokens that are left of the body
unfoldable pub lexemes : Spot → List Lexeme
lexemes s = map (lexeme_of s.bytes) (body (ahead s))

-- a file, with the header line that ends a body of it, and all that follows
pub record Beyond : Type 0 where
  pub bytes : List ℕ
  pub items : List Item

-- what stands after the body of a scan
unfoldable pub beyond : Spot → Beyond
beyond s = record { bytes = s.bytes; items = after_body (ahead s) }

-- the line that ends the body
unfoldable pub end_line : Beyond → ℕ
end_line b = line_ahead b.bytes b.items

-- at the `$` of the header line that ends the body, or at the end of the bytes
unfoldable pub at_end : Beyond → Spot
at_end b = record { bytes = b.bytes; place = place_after_token (record { bytes = b.bytes; place = 0 }) b.items }

-- a token with this text and line is the next one, and these are left after it
pub record IsNext (text : List ℕ) (line : ℕ) (before after : List Lexeme) : Type 0 where
  pub token : Lexeme
  pub first : before ≡ token ∷ after
  pub text_is : token.text ≡ text
  pub line_is : token.line ≡ line
