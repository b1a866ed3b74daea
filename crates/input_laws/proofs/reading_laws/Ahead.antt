-- The body of a scan along its calls.
use Rattle.std.proofs.Common.{◌≡◌, ℕ, List, [], ◌∷◌, map, Some, None, refl, sym, ap, ◌∙◌}
use Rattle.input_defs.specs.declared.scan_defs.Token.{Token}
use Rattle.input_defs.specs.scan_defs.Items.{Item, Header, Word, Spot, text_of, ahead, body, after_body}
use Rattle.input_defs.specs.scan_defs.Steps.{moved, line_ahead, next_token, place_after_token, ahead_after_token}
use Rattle.input_defs.specs.Bodies.{lexeme_of}
use Rattle.input_laws.specs.reading_laws.Lexemes.{lexemes, beyond, end_line, at_end, IsNext}

-- ---- the next token

body-some : (items : List Item) (t : Token) → Some t ≡ next_token items → body items ≡ t ∷ body (ahead_after_token items)
body-some [] t e = absurd cc
body-some (Header name ∷ items) t e = absurd cc
body-some (Word token ∷ items) t e = let same : t ≡ token = cc e in ap (λ u. u ∷ body items) (sym same)

body-none : (items : List Item) → None ≡ next_token items → body items ≡ []
body-none [] e = refl
body-none (Header name ∷ items) e = refl
body-none (Word token ∷ items) e = absurd cc

-- a token does not end the body, nor does the search for one
after-same : (items : List Item) → after_body (ahead_after_token items) ≡ after_body items
after-same [] = refl
after-same (Header name ∷ items) = refl
after-same (Word token ∷ items) = refl

after-none : (items : List Item) → None ≡ next_token items → ahead_after_token items ≡ after_body items
after-none [] e = refl
after-none (Header name ∷ items) e = refl
after-none (Word token ∷ items) e = absurd cc

-- a token is the first of the body, and leaves the rest of it
pub next-some : (old new : Spot) (t : Token) (text : List ℕ) → Some t ≡ next_token (ahead old) → ahead new ≡ ahead_after_token (ahead old) → new.bytes ≡ old.bytes
    → text ≡ text_of new.bytes t → IsNext text t.line (lexemes old) (lexemes new)
unfolding lexemes lexeme_of
next-some old new t text is goes bytes text_is = record {
  token = lexeme_of old.bytes t;
  first = ap (map (lexeme_of old.bytes)) (body-some (ahead old) t is) ∙ ap (λ rest. lexeme_of old.bytes t ∷ rest) (rw (goes, bytes) refl);
  text_is = ap (λ bs. text_of bs t) (sym bytes) ∙ sym text_is;
  line_is = refl;
}

pub next-none : (old : Spot) → None ≡ next_token (ahead old) → lexemes old ≡ []
unfolding lexemes
next-none old is = ap (map (lexeme_of old.bytes)) (body-none (ahead old) is)

-- and then none is left
pub left-none : (old new : Spot) → None ≡ next_token (ahead old) → ahead new ≡ ahead_after_token (ahead old) → lexemes new ≡ []
unfolding lexemes
left-none old new is goes = ap (map (lexeme_of new.bytes)) (ap body goes ∙ nothing (ahead old) is)
  where
    nothing : (items : List Item) → None ≡ next_token items → body (ahead_after_token items) ≡ []
    nothing [] e = refl
    nothing (Header name ∷ items) e = refl
    nothing (Word token ∷ items) e = absurd (cc e)

-- the search for a token stays in the body
pub beyond-token : (old new : Spot) → ahead new ≡ ahead_after_token (ahead old) → new.bytes ≡ old.bytes → beyond new ≡ beyond old
unfolding beyond
beyond-token old new goes bytes = let e = after-same (ahead old) in rw (goes, bytes, e) refl

-- where there is none the scan stands at the end of the body
pub stands-none : (old new : Spot) → None ≡ next_token (ahead old) → new ≡ moved old (place_after_token old (ahead old)) → new ≡ at_end (beyond old)
unfolding at_end beyond
stands-none old new is stands = stands ∙ place old (ahead old) is
  where
    place : (s : Spot) (items : List Item) → None ≡ next_token items → moved s (place_after_token s items) ≡ moved s (place_after_token (record { bytes = s.bytes; place = 0 }) (after_body items))
    place s [] e = refl
    place s (Header name ∷ items) e = refl
    place s (Word token ∷ items) e = absurd cc

-- and on the line that ends it
pub line-none : (old new : Spot) → None ≡ next_token (ahead old) → ahead new ≡ ahead_after_token (ahead old) → new.bytes ≡ old.bytes → line_ahead new.bytes (ahead new) ≡ end_line (beyond old)
unfolding end_line beyond
line-none old new is goes bytes = let e = after-none (ahead old) is in rw (goes, bytes, e) refl
