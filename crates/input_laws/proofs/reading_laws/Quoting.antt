-- The next quoted text of a body, and that there is none.
use Rattle.std.proofs.Common.{◌≡◌, ℕ, ◌+◌, ◌-◌, ◌==◌, Bool, true, false, cond, List, [], ◌∷◌, map, Some, None, Ok, Err, refl, sym, ap, ap₂, ◌∙◌}
use Rattle.std.specs.Prelude.{Option, Result, option_map, if◌then◌else◌}
use Rattle.std.proofs.lemmas.Bool.{eq-eqb}
use Rattle.input_defs.specs.declared.scan_defs.Token.{Token}
use Rattle.input_defs.specs.scan_defs.Lines.{front, back}
use Rattle.input_defs.specs.scan_defs.Items.{Item, Header, Word, Spot, text_of, ahead, body, after_body}
use Rattle.input_defs.specs.scan_defs.Quotes.{is_quoted, or_line, quoted_on, line_from, quoted_in}
use Rattle.input_defs.specs.scan_defs.Steps.{after_items_on, ahead_after_quoted}
use Rattle.input_defs.specs.Bodies.{Lexeme, Faults, lexeme_of, after_line, text_where, quoted}
use Rattle.input_laws.specs.reading_laws.Lexemes.{lexemes, beyond, IsNext}

-- tokens of a line are passed in a file as in a body
passed-body : (bytes : List ℕ) (line : ℕ) (items : List Item) → map (lexeme_of bytes) (body (after_items_on line items)) ≡ after_line line (map (lexeme_of bytes) (body items))
unfolding lexeme_of
passed-body bytes line [] = refl
passed-body bytes line (Header name ∷ items) = refl
passed-body bytes line (Word token ∷ items) = go (token.line == line) (passed-body bytes line items)
  where
    go : (b : Bool) → map (lexeme_of bytes) (body (after_items_on line items)) ≡ after_line line (map (lexeme_of bytes) (body items))
        → map (lexeme_of bytes) (body (cond b (after_items_on line items) (Word token ∷ items))) ≡ cond b (after_line line (map (lexeme_of bytes) (body items))) (lexeme_of bytes token ∷ map (lexeme_of bytes) (body items))
    go true rest = rest
    go false rest = refl

-- and they do not end it
passed-after : (line : ℕ) (items : List Item) → after_body (after_items_on line items) ≡ after_body items
passed-after line [] = refl
passed-after line (Header name ∷ items) = refl
passed-after line (Word token ∷ items) = go (token.line == line) (passed-after line items)
  where
    go : (b : Bool) → after_body (after_items_on line items) ≡ after_body items → after_body (cond b (after_items_on line items) (Word token ∷ items)) ≡ after_body items
    go true rest = rest
    go false rest = refl

-- the quoted text of a line is on that line
text-line : (bytes : List ℕ) (token text : Token) → quoted_on (line_from bytes token) ≡ Some text → text.line ≡ token.line
unfolding quoted_on
text-line bytes token text =
    let line = line_from bytes token in
    go (is_quoted line.text) (record { start = line.start + front line.text + 1; end = line.start + back line.text - 1; line = line.number }) refl
  where
    go : (b : Bool) (t : Token) → t.line ≡ token.line → (if b then Some t else None) ≡ Some text → text.line ≡ token.line
    go true t same e = let is : t ≡ text = cc e in ap (λ (u : Token). u.line) (sym is) ∙ same
    go false t same e = absurd (cc e)

-- ---- along a scan

-- what the definitions find where a quoted text is the next thing, and where something else is
found : {E : Type 0} (bytes : List ℕ) (faults : Faults E) (items : List Item) (text : Token) → Ok text ≡ quoted_in bytes items
    → quoted faults (map (lexeme_of bytes) (body items)) ≡ Ok (text_of bytes text, map (lexeme_of bytes) (body (after_items_on text.line items)))
unfolding quoted_in lexeme_of
found bytes faults [] text is = absurd cc
found bytes faults (Header name ∷ items) text is = absurd cc
found {E} bytes faults (Word token ∷ items) text is = go (quoted_on (line_from bytes token)) refl is
  where
    go : (o : Option Token) → quoted_on (line_from bytes token) ≡ o → Ok text ≡ or_line token.line o
        → text_where faults token.line (map (lexeme_of bytes) (body items)) (option_map (text_of bytes) o) ≡ Ok (text_of bytes text, map (lexeme_of bytes) (body (after_items_on text.line (Word token ∷ items))))
    go None e h = absurd (cc h)
    go (Some t) e h =
        let same : text ≡ t = cc h in
        let line : text.line ≡ token.line = text-line bytes token text (e ∙ ap (λ u. Some u) (sym same)) in
        let test = eq-eqb token.line text.line (sym line) in
        let after : map (lexeme_of bytes) (body (after_items_on text.line (Word token ∷ items))) ≡ after_line text.line (map (lexeme_of bytes) (body items)) = ap (λ b. map (lexeme_of bytes) (body (cond b (after_items_on text.line items) (Word token ∷ items)))) test ∙ passed-body bytes text.line items in
        ap₂ (λ u l. Ok (text_of bytes u, l)) (sym same) (ap (λ n. after_line n (map (lexeme_of bytes) (body items))) (sym line) ∙ sym after)

missing : {E : Type 0} (bytes : List ℕ) (faults : Faults E) (items : List Item) (line : ℕ) (first : Lexeme) (rest : List Lexeme) → Err line ≡ quoted_in bytes items → map (lexeme_of bytes) (body items) ≡ first ∷ rest
    → quoted faults (map (lexeme_of bytes) (body items)) ≡ Err (faults.name line)
unfolding quoted_in lexeme_of
missing bytes faults [] line first rest is some = absurd (cc some)
missing bytes faults (Header name ∷ items) line first rest is some = absurd (cc some)
missing bytes faults (Word token ∷ items) line first rest is some = go (quoted_on (line_from bytes token)) is
  where
    go : (o : Option Token) → Err line ≡ or_line token.line o → text_where faults token.line (map (lexeme_of bytes) (body items)) (option_map (text_of bytes) o) ≡ Err (faults.name line)
    go None h = let same : line ≡ token.line = cc h in rw same refl
    go (Some t) h = absurd (cc h)

-- a quoted text is read, and what it leaves
pub quoted-ok : {E : Type 0} (faults : Faults E) (old new : Spot) (token : Token) (text : List ℕ) → Ok token ≡ quoted_in old.bytes (ahead old) → ahead new ≡ ahead_after_quoted (ahead old) (Ok token) → new.bytes ≡ old.bytes
    → text ≡ text_of new.bytes token → quoted faults (lexemes old) ≡ Ok (text, lexemes new)
unfolding lexemes
quoted-ok faults old new token text is goes bytes text_is =
    found old.bytes faults (ahead old) token is
    ∙ ap₂ (λ t l. Ok (t, l)) (ap (λ bs. text_of bs token) (sym bytes) ∙ sym text_is) (ap₂ (λ bs items. map (lexeme_of bs) (body items)) (sym bytes) (sym goes))

-- something else stands there
pub quoted-err : {E : Type 0} (faults : Faults E) (old mid : Spot) (line : ℕ) (text : List ℕ) (at : ℕ) (rest : List Lexeme) → Err line ≡ quoted_in old.bytes (ahead old) → ahead mid ≡ ahead old → mid.bytes ≡ old.bytes
    → IsNext text at (lexemes mid) rest → quoted faults (lexemes old) ≡ Err (faults.name line)
unfolding lexemes
quoted-err faults old mid line text at rest is goes bytes next =
    missing old.bytes faults (ahead old) line next.token rest is (ap₂ (λ bs items. map (lexeme_of bs) (body items)) (sym bytes) (sym goes) ∙ next.first)

-- nothing stands there
pub quoted-ended : {E : Type 0} (faults : Faults E) (before : List Lexeme) → before ≡ [] → quoted faults before ≡ Err faults.ended
quoted-ended faults before e = rw e refl

-- a quoted text does not end the body, and where there is none the scan is where it was
pub beyond-quoted : (old new : Spot) (answer : Result Token ℕ) → ahead new ≡ ahead_after_quoted (ahead old) answer → new.bytes ≡ old.bytes → beyond new ≡ beyond old
unfolding beyond
beyond-quoted old new (Ok token) goes bytes = ap₂ (λ bs items. record { bytes = bs; items = items }) bytes (ap after_body goes ∙ passed-after token.line (ahead old))
beyond-quoted old new (Err line) goes bytes = ap₂ (λ bs items. record { bytes = bs; items = items }) bytes (ap after_body goes)

pub same-place : (old new : Spot) → ahead new ≡ ahead old → new.bytes ≡ old.bytes → lexemes new ≡ lexemes old
unfolding lexemes
same-place old new goes bytes = ap₂ (λ bs items. map (lexeme_of bs) (body items)) bytes goes
