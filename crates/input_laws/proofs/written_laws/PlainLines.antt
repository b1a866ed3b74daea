-- A file is read by the texts and numbers of its lines: its tokens and blocks, with no places in its bytes.
use Rattle.std.proofs.Common.{◌≡◌, ℕ, ◌+◌, ◌-◌, Bool, true, false, cond, List, [], ◌∷◌, ◌++◌, map, length, take, drop, Option, Some, None, refl, sym, ap, ap₂, ◌∙◌, subst, arith, append_assoc, append-nil, length-append}
use Rattle.std.specs.Prelude.{flat_map, option_map, slice_range}
use Rattle.std.specs.List.{AllByRecursion}
use Rattle.std.proofs.lemmas.Bool.{and_parts, leb-true}
use Rattle.std.proofs.lemmas.List.{map-append, take-append-le}
use Rattle.std.proofs.Math.Seq.{take-length, drop-append-add}
use Rattle.input_defs.specs.line_defs.Rows.{is_blank, is_newline, parts, onto_first, lines_of, is_some_bytes}
use Rattle.input_defs.specs.declared.scan_defs.Token.{Token}
use Rattle.input_defs.specs.scan_defs.Lines.{Line, lines_at, rest_of_line, front, back}
use Rattle.input_defs.specs.scan_defs.Items.{Item, Header, Word, text_of, is_header, name_of, tokens_at, tokens_on, words_on, items_on, items, body}
use Rattle.input_defs.specs.scan_defs.Quotes.{is_quoted, quoted_on, line_from}
use Rattle.input_defs.specs.Bodies.{Lexeme, lexeme_of}
use Rattle.input_defs.specs.Files.{Block, blocks_of}
use Rattle.input_laws.proofs.LocalLines.{Stands, slice-in, rest-in, Within, text-in, file-stands}
use Rattle.input_laws.proofs.LocalBytes.{items-whole}
use Rattle.input_laws.proofs.written_laws.NumberTexts.{apart-none}

-- ---- the tokens of a line

-- the quoted text that stands alone in this one
abbrev pub quote_of : List ℕ → Option (List ℕ)
quote_of text = cond (is_quoted text) (Some (slice_range text (front text + 1) (back text - 1))) None

-- tokens of what is left of a line, whose runs of bytes these are
abbrev pub lexemes_at : ℕ → List ℕ → List (List ℕ) → List Lexeme
lexemes_at n text [] = []
lexemes_at n text (run ∷ runs) = (cond (is_some_bytes run) (record { text = run; quoted = quote_of text; line = n } ∷ []) []) ++ lexemes_at n (drop (length run + 1) text) runs

abbrev pub lexemes_on : ℕ → List ℕ → List Lexeme
lexemes_on n text = lexemes_at n text (parts is_blank text)

-- no LF is in the text
abbrev pub IsLine : List ℕ → Type 0
IsLine text = AllByRecursion (λ b. is_newline b ≡ false) text

-- the text is these runs with a byte between two of them
pub Runs : List ℕ → List (List ℕ) → Type 0
Runs text [] = ⊥
Runs text (run ∷ []) = text ≡ run
Runs text (run ∷ next ∷ runs) = (b : ℕ) × (more : List ℕ) × (text ≡ run ++ b ∷ more) × Runs more (next ∷ runs)

runs-onto : (b : ℕ) (bs : List ℕ) (runs : List (List ℕ)) → Runs bs runs → Runs (b ∷ bs) (onto_first b runs)
unfolding Runs
runs-onto b bs [] h = absurd h
runs-onto b bs (run ∷ []) h = ap (λ xs. b ∷ xs) h
runs-onto b bs (run ∷ next ∷ runs) h = (h.0, h.1, ap (λ xs. b ∷ xs) h.2, h.3)

runs-new : (b : ℕ) (bs : List ℕ) (runs : List (List ℕ)) → Runs bs runs → Runs (b ∷ bs) ([] ∷ runs)
unfolding Runs
runs-new b bs [] h = absurd h
runs-new b bs (run ∷ runs) h = (b, bs, refl, h)

parts-runs : (test : ℕ → Bool) (text : List ℕ) → Runs text (parts test text)
unfolding Runs
parts-runs test [] = refl
parts-runs test (b ∷ bs) = go (test b) (parts-runs test bs)
  where
    go : (t : Bool) → Runs bs (parts test bs) → Runs (b ∷ bs) (cond t ([] ∷ parts test bs) (onto_first b (parts test bs)))
    go true h = runs-new b bs (parts test bs) h
    go false h = runs-onto b bs (parts test bs) h

-- the first token of a line
first-lexeme : (bytes : List ℕ) (line : Line) (run rest : List ℕ) → Stands bytes line → IsLine line.text → line.text ≡ run ++ rest
    → lexeme_of bytes (record { start = line.start; end = line.start + length run; line = line.number }) ≡ record { text = run; quoted = quote_of line.text; line = line.number }
unfolding lexeme_of quoted_on
first-lexeme bytes line run rest s plain whole = λ i. record { text = text i; quoted = (quotes ∙ go (is_quoted line.text) refl) i; line = line.number }
  where
    token : Token
    token = record { start = line.start; end = line.start + length run; line = line.number }

    long : length line.text ≡ length run + length rest
    long = ap length whole ∙ length-append run rest

    start_at : line.start ≡ line.start + 0
    start_at = omega arith

    within : Within line token
    within = record { from = 0; to = length run; start = start_at; end = refl; from_low = omega arith; to_low = omega (arith, long); number = refl }

    count : length run - 0 ≡ length run
    count = omega arith

    text : text_of bytes token ≡ run
    text = text-in bytes line token s within ∙ ap₂ (λ k (xs : List ℕ). take k xs) count whole ∙ take-append-le (length run) run rest (omega arith) ∙ take-length run

    rest_of : rest_of_line bytes line.start ≡ line.text
    rest_of = ap (rest_of_line bytes) start_at ∙ rest-in bytes line s 0 (omega arith) ∙ (apart-none is_newline line.text plain).0

    inner : List ℕ → Token
    inner r = record { start = line.start + front r + 1; end = line.start + back r - 1; line = line.number }

    quotes : option_map (text_of bytes) (quoted_on (line_from bytes token)) ≡ option_map (text_of bytes) (cond (is_quoted line.text) (Some (inner line.text)) None)
    quotes = ap (λ (r : List ℕ). option_map (text_of bytes) (cond (is_quoted r) (Some (inner r)) None)) rest_of

    go : (b : Bool) → is_quoted line.text ≡ b → option_map (text_of bytes) (cond b (Some (inner line.text)) None) ≡ cond b (Some (slice_range line.text (front line.text + 1) (back line.text - 1))) None
    go true e =
        let far = leb-true (front line.text + 2) (back line.text) (and_parts _ _ e).0 in
        let from : line.start + front line.text + 1 ≡ line.start + (front line.text + 1) = omega arith in
        let to : line.start + back line.text - 1 ≡ line.start + (back line.text - 1) = omega (arith, far) in
        ap Some (ap₂ (λ i j. slice_range bytes i j) from to ∙ slice-in bytes line s (front line.text + 1) (back line.text - 1) (omega arith))
    go false e = refl

-- what is left of a line after a run and a byte
stands-after : (bytes : List ℕ) (line : Line) (run : List ℕ) (b : ℕ) (more : List ℕ) → Stands bytes line → line.text ≡ run ++ b ∷ more → Stands bytes (record { start = line.start + length run + 1; number = line.number; text = more })
stands-after bytes line run b more s whole = record {
  before = s.before ++ (run ++ b ∷ []);
  rest = s.rest;
  whole = s.whole ∙ ap (λ (t : List ℕ). s.before ++ (t ++ s.rest)) whole ∙ ap (λ (t : List ℕ). s.before ++ t) (append_assoc run (b ∷ more) s.rest ∙ sym (append_assoc run (b ∷ []) (more ++ s.rest)))
      ∙ sym (append_assoc s.before (run ++ b ∷ []) (more ++ s.rest));
  place = length-append s.before (run ++ b ∷ []) ∙ omega (arith, length-append run (b ∷ []), s.place);
  ends = s.ends;
}

pub drop-past : (run : List ℕ) (b : ℕ) (more : List ℕ) → drop (length run + 1) (run ++ b ∷ more) ≡ more
drop-past run b more = drop-append-add run (b ∷ more) 1

all-after : (run : List ℕ) (b : ℕ) (more : List ℕ) → IsLine (run ++ b ∷ more) → IsLine more
all-after [] b more h = h.1
all-after (x ∷ run) b more h = all-after run b more h.1

tokens-plain : (bytes : List ℕ) (line : Line) (runs : List (List ℕ)) → Stands bytes line → IsLine line.text → Runs line.text runs
    → map (lexeme_of bytes) (tokens_at line.start line.number runs) ≡ lexemes_at line.number line.text runs
unfolding Runs
tokens-plain bytes line [] s plain h = absurd h
tokens-plain bytes line (run ∷ []) s plain h = go (is_some_bytes run)
  where
    go : (t : Bool) → map (lexeme_of bytes) ((cond t (record { start = line.start; end = line.start + length run; line = line.number } ∷ []) []) ++ []) ≡ (cond t (record { text = run; quoted = quote_of line.text; line = line.number } ∷ []) []) ++ []
    go true = ap (λ x. x ∷ []) (first-lexeme bytes line run [] s plain (h ∙ sym (append-nil run)))
    go false = refl
tokens-plain bytes line (run ∷ next ∷ runs) s plain h = go (is_some_bytes run)
    (tokens-plain bytes (record { start = line.start + length run + 1; number = line.number; text = h.1 }) (next ∷ runs) (stands-after bytes line run h.0 h.1 s h.2) (all-after run h.0 h.1 (subst IsLine h.2 plain)) h.3
    ∙ ap (λ (t : List ℕ). lexemes_at line.number t (next ∷ runs)) (sym (ap (drop (length run + 1)) h.2 ∙ drop-past run h.0 h.1)))
  where
    go : (t : Bool) → map (lexeme_of bytes) (tokens_at (line.start + length run + 1) line.number (next ∷ runs)) ≡ lexemes_at line.number (drop (length run + 1) line.text) (next ∷ runs)
        → map (lexeme_of bytes) ((cond t (record { start = line.start; end = line.start + length run; line = line.number } ∷ []) []) ++ tokens_at (line.start + length run + 1) line.number (next ∷ runs))
        ≡ (cond t (record { text = run; quoted = quote_of line.text; line = line.number } ∷ []) []) ++ lexemes_at line.number (drop (length run + 1) line.text) (next ∷ runs)
    go true left = ap₂ (λ x xs. x ∷ xs) (first-lexeme bytes line run (h.0 ∷ h.1) s plain h.2) left
    go false left = left

line-plain : (bytes : List ℕ) (line : Line) → Stands bytes line → IsLine line.text → map (lexeme_of bytes) (tokens_on line) ≡ lexemes_on line.number line.text
unfolding tokens_on
line-plain bytes line s plain = tokens-plain bytes line (parts is_blank line.text) s plain (parts-runs is_blank line.text)

-- ---- the blocks of a file

-- the name on a header line
abbrev pub name_in : List ℕ → List ℕ
name_in text = slice_range text (front text + 1) (back text)

abbrev pub body_in : ℕ → List (List ℕ) → List Lexeme
body_in n [] = []
body_in n (text ∷ texts) = cond (is_header text) [] (lexemes_on n text ++ body_in (n + 1) texts)

abbrev pub blocks_in : ℕ → List (List ℕ) → List Block
blocks_in n [] = []
blocks_in n (text ∷ texts) = cond (is_header text) (record { name = name_in text; line = n; body = body_in (n + 1) texts } ∷ blocks_in (n + 1) texts) (blocks_in (n + 1) texts)

body-words : (tokens : List Token) (is : List Item) → body (map Word tokens ++ is) ≡ tokens ++ body is
body-words [] is = refl
body-words (t ∷ ts) is = ap (λ xs. t ∷ xs) (body-words ts is)

blocks-words : (bytes : List ℕ) (tokens : List Token) (is : List Item) → blocks_of bytes (map Word tokens ++ is) ≡ blocks_of bytes is
unfolding blocks_of
blocks-words bytes [] is = refl
blocks-words bytes (t ∷ ts) is = blocks-words bytes ts is

body-plain : (bytes : List ℕ) (start n : ℕ) (texts : List (List ℕ)) → AllByRecursion (Stands bytes) (lines_at start n texts) → AllByRecursion IsLine texts
    → map (lexeme_of bytes) (body (flat_map items_on (lines_at start n texts))) ≡ body_in n texts
unfolding items_on
body-plain bytes start n [] s plain = refl
body-plain bytes start n (text ∷ texts) s plain = go (is_header text) (body-plain bytes (start + length text + 1) (n + 1) texts s.1 plain.1)
  where
    line : Line
    line = record { start = start; number = n; text = text }

    others : List Item
    others = flat_map items_on (lines_at (start + length text + 1) (n + 1) texts)

    go : (t : Bool) → map (lexeme_of bytes) (body others) ≡ body_in (n + 1) texts
        → map (lexeme_of bytes) (body ((cond t (Header (name_of line) ∷ []) (words_on line)) ++ others)) ≡ cond t [] (lexemes_on n text ++ body_in (n + 1) texts)
    go true r = refl
    go false r = ap (map (lexeme_of bytes)) (body-words (tokens_on line) others) ∙ map-append (lexeme_of bytes) (tokens_on line) (body others) ∙ ap₂ (λ a b. a ++ b) (line-plain bytes line s.0 plain.0) r

name-plain : (bytes : List ℕ) (line : Line) → Stands bytes line → text_of bytes (name_of line) ≡ name_in line.text
unfolding name_of
name-plain bytes line s =
    let from : line.start + front line.text + 1 ≡ line.start + (front line.text + 1) = omega arith in
    ap (λ i. slice_range bytes i (line.start + back line.text)) from ∙ slice-in bytes line s (front line.text + 1) (back line.text) (omega arith)

name-line : (line : Line) → (name_of line).line ≡ line.number
unfolding name_of
name-line line = refl

blocks-plain : (bytes : List ℕ) (start n : ℕ) (texts : List (List ℕ)) → AllByRecursion (Stands bytes) (lines_at start n texts) → AllByRecursion IsLine texts
    → blocks_of bytes (flat_map items_on (lines_at start n texts)) ≡ blocks_in n texts
unfolding items_on blocks_of
blocks-plain bytes start n [] s plain = refl
blocks-plain bytes start n (text ∷ texts) s plain = go (is_header text) (blocks-plain bytes (start + length text + 1) (n + 1) texts s.1 plain.1)
  where
    line : Line
    line = record { start = start; number = n; text = text }

    others : List Item
    others = flat_map items_on (lines_at (start + length text + 1) (n + 1) texts)

    block : List ℕ → ℕ → List Lexeme → Block
    block name l ws = record { name = name; line = l; body = ws }

    go : (t : Bool) → blocks_of bytes others ≡ blocks_in (n + 1) texts
        → blocks_of bytes ((cond t (Header (name_of line) ∷ []) (words_on line)) ++ others) ≡ cond t (block (name_in text) n (body_in (n + 1) texts) ∷ blocks_in (n + 1) texts) (blocks_in (n + 1) texts)
    go true r = λ i. block (name-plain bytes line s.0 i) (name-line line i) (body-plain bytes (start + length text + 1) (n + 1) texts s.1 plain.1 i) ∷ r i
    go false r = blocks-words bytes (tokens_on line) others ∙ r

-- the blocks of a file are those of its lines
pub blocks-of-lines : (bytes : List ℕ) → AllByRecursion IsLine (lines_of bytes) → blocks_of bytes (items bytes) ≡ blocks_in 1 (lines_of bytes)
blocks-of-lines bytes plain = ap (blocks_of bytes) (items-whole bytes) ∙ blocks-plain bytes 0 1 (lines_of bytes) (file-stands bytes) plain
