-- How the body of a section is read: number by number and text by text, up to the first fault. A fault is of the token
-- that is read, or that there is none left.
use Rattle.std.specs.Prelude.{ℕ, zero, suc, ◌==◌, if◌then◌else◌, List, [], ◌∷◌, ℤ, Option, Some, None, option_map, Result, Ok, Err}
use Rattle.input_defs.specs.declared.scan_defs.Token.{Token}
use Rattle.input_defs.specs.declared.scan_defs.NumberFault.{NumberFault}
use Rattle.input_defs.specs.scan_defs.Items.{text_of}
use Rattle.input_defs.specs.scan_defs.Quotes.{quoted_on, line_from}
use Rattle.input_defs.specs.scan_defs.Numbers.{uint_of, int_of, fixed_of}

-- a token as a section reads it: its bytes, the quoted text that stands alone from here to the end of the line, and its line
pub record Lexeme : Type 0 where
  pub text : List ℕ
  pub quoted : Option (List ℕ)
  pub line : ℕ

unfoldable pub lexeme_of : List ℕ → Token → Lexeme
lexeme_of bytes token = record { text = text_of bytes token; quoted = option_map (text_of bytes) (quoted_on (line_from bytes token)); line = token.line }

-- the faults of every body: of a number on a line, of a quoted text on a line, and that no token is left
pub record Faults (E : Type 0) : Type 0 where
  pub number : NumberFault → ℕ → E
  pub name : ℕ → E
  pub ended : E

-- a way to read the beginning of a body: what stands there, and the tokens that are left, or the first fault
abbrev pub Reader : Type 0 → Type 0 → Type 0
Reader E A = Faults E → List Lexeme → Result (A × List Lexeme) E

-- nothing is read, and this is the answer
abbrev pub give : {E A : Type 0} → A → Reader E A
give x faults body = Ok (x, body)

abbrev pub read_on : {E A B : Type 0} → (A → Reader E B) → Faults E → Result (A × List Lexeme) E → Result (B × List Lexeme) E
read_on k faults (Ok got) = k got.0 faults got.1
read_on k faults (Err e) = Err e

-- one after the other
infixl 10 ◌>>=◌
abbrev pub ◌>>=◌ : {E A B : Type 0} → Reader E A → (A → Reader E B) → Reader E B
(r >>= k) faults body = read_on k faults (r faults body)

-- n times
abbrev pub many : {E A : Type 0} → ℕ → Reader E A → Reader E (List A)
many zero r = give []
many (suc n) r = do
  x ← r
  xs ← many n r
  give (x ∷ xs)

-- ---- one token

abbrev pub with_rest : {E A : Type 0} → List Lexeme → Result A E → Result (A × List Lexeme) E
with_rest rest (Ok x) = Ok (x, rest)
with_rest rest (Err e) = Err e

abbrev pub number_where : {E A B : Type 0} → Faults E → ℕ → (ℕ → A → Result B E) → Result A NumberFault → Result B E
number_where faults line test (Ok x) = test line x
number_where faults line test (Err e) = Err (faults.number e line)

-- a number that has to pass a test, which is told its line
abbrev pub tested : {E A B : Type 0} → (List ℕ → Result A NumberFault) → (ℕ → A → Result B E) → Reader E B
tested number_of test faults [] = Err faults.ended
tested number_of test faults (token ∷ rest) = with_rest rest (number_where faults token.line test (number_of token.text))

abbrev pub number : {E A : Type 0} → (List ℕ → Result A NumberFault) → Reader E A
number number_of = tested number_of (λ line x. Ok x)

abbrev pub uint : {E : Type 0} → Reader E ℕ
uint = number uint_of

abbrev pub int : {E : Type 0} → Reader E ℤ
int = number int_of

abbrev pub fixed : {E : Type 0} → Reader E ℤ
fixed = number fixed_of

-- the tokens after those of a line
abbrev pub after_line : ℕ → List Lexeme → List Lexeme
after_line line [] = []
after_line line (token ∷ rest) = if token.line == line then after_line line rest else token ∷ rest

abbrev pub text_where : {E : Type 0} → Faults E → ℕ → List Lexeme → Option (List ℕ) → Result (List ℕ × List Lexeme) E
text_where faults line rest None = Err (faults.name line)
text_where faults line rest (Some text) = Ok (text, after_line line rest)

-- a quoted text
abbrev pub quoted : {E : Type 0} → Reader E (List ℕ)
quoted faults [] = Err faults.ended
quoted faults (token ∷ rest) = text_where faults token.line rest token.quoted

-- ---- a whole body

abbrev pub nothing_left : {E A : Type 0} → (ℕ → E) → Result (A × List Lexeme) E → Result A E
nothing_left extra (Err e) = Err e
nothing_left extra (Ok (x, [])) = Ok x
nothing_left extra (Ok (x, token ∷ rest)) = Err (extra token.line)

-- a body has to end after the last token that is read; `extra` is the fault of a further one
abbrev pub whole : {E A : Type 0} → (ℕ → E) → Reader E A → Faults E → List Lexeme → Result A E
whole extra r faults body = nothing_left extra (r faults body)
