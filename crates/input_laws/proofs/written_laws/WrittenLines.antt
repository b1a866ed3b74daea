-- Written lines, cut into their words again.
use Rattle.std.proofs.Common.{◌≡◌, ℕ, suc, ◌+◌, ◌-◌, ◌<◌, ◌≤◌, Bool, true, false, cond, ◌&&◌, ◌||◌, ◌==◌, nat_le, List, [], ◌∷◌, ◌++◌, length, get_or, take, drop, ℤ, pos, negsuc, refl, sym, ap, ap₂, ◌∙◌, arith, append_assoc, append-nil, length-append}
use Rattle.std.specs.Prelude.{Some, None, decimal, flat_map, slice_range}
use Rattle.std.specs.Fmt.{signed_decimal}
use Rattle.std.specs.List.{AllByRecursion, prefix_len, list_any}
use Rattle.std.proofs.lemmas.Bool.{le-leb, lt-ltb, eq-eqb, ne_eqb, or_parts}
use Rattle.std.proofs.lemmas.Int.{ints}
use Rattle.std.proofs.lemmas.List.{take-append-le, reverse-append}
use Rattle.std.proofs.Math.Seq.{take-length, get_or-append_seam}
use Rattle.plain_lists.proofs.Each.{all_weaker, all_append}
use Rattle.input_defs.specs.line_defs.Rows.{is_blank, is_newline, parts, onto_first, lines_of, is_some_bytes}
use Rattle.input_defs.specs.line_defs.Numbers.{fixed_text}
use Rattle.input_defs.specs.scan_defs.Lines.{front, back}
use Rattle.input_defs.specs.scan_defs.Items.{is_header}
use Rattle.input_defs.specs.Bodies.{Lexeme, after_line}
use Rattle.input_defs.specs.RightContent.{IsUnsigned, IsSigned, IsFixed}
use Rattle.input_laws.specs.written_laws.Written.{spaced, as_text, quote, IsOneLine}
use Rattle.input_laws.proofs.written_laws.NumberTexts.{IsDigitByte, Writes, decimal-writes, fixed-bytes}
use Rattle.input_laws.proofs.written_laws.PlainLines.{quote_of, lexemes_at, lexemes_on, IsLine, drop-past, body_in, blocks_in}

-- ---- parts

parts-at : (test : ℕ → Bool) (xs : List ℕ) (b : ℕ) (rest : List ℕ) → AllByRecursion (λ c. test c ≡ false) xs → test b ≡ true → parts test (xs ++ b ∷ rest) ≡ xs ∷ parts test rest
parts-at test [] b rest h passes = ap (λ t. cond t ([] ∷ parts test rest) (onto_first b (parts test rest))) passes
parts-at test (x ∷ xs) b rest h passes =
    ap (λ t. cond t ([] ∷ parts test (xs ++ b ∷ rest)) (onto_first x (parts test (xs ++ b ∷ rest)))) h.0 ∙ ap (onto_first x) (parts-at test xs b rest h.1 passes)

parts-end : (test : ℕ → Bool) (xs : List ℕ) → AllByRecursion (λ c. test c ≡ false) xs → parts test xs ≡ xs ∷ []
parts-end test [] h = refl
parts-end test (x ∷ xs) h = ap (λ t. cond t ([] ∷ parts test xs) (onto_first x (parts test xs))) h.0 ∙ ap (onto_first x) (parts-end test xs h.1)

-- the lines of a text are those that it was made of, and an empty one at its end
pub lines-back : (lines : List (List ℕ)) → AllByRecursion IsLine lines → lines_of (as_text lines) ≡ lines ++ [] ∷ []
unfolding lines_of
lines-back [] h = refl
lines-back (line ∷ lines) h = ap (parts is_newline) (append_assoc line (10 ∷ []) (as_text lines)) ∙ parts-at is_newline line 10 (as_text lines) h.0 refl ∙ ap (λ ls. line ∷ ls) (lines-back lines h.1)

-- ---- words

-- bytes above the blanks, at least one
pub record IsWord (word : List ℕ) : Type 0 where
  pub some : 1 ≤ length word
  pub bytes : AllByRecursion (λ b. 33 ≤ b) word

not-blank : (b : ℕ) → 33 ≤ b → is_blank b ≡ false
not-blank b h = ap₂ (λ x y. x || y) (ap₂ (λ x y. x || y) (ne_eqb b 32 (λ e. omega (arith, h, e))) (ne_eqb b 9 (λ e. omega (arith, h, e)))) (ne_eqb b 13 (λ e. omega (arith, h, e)))

not-newline : (b : ℕ) → 33 ≤ b → is_newline b ≡ false
not-newline b h = ne_eqb b 10 (λ e. omega (arith, h, e))

word-blanks : (word : List ℕ) → IsWord word → AllByRecursion (λ b. is_blank b ≡ false) word
word-blanks word h = all_weaker (λ b. 33 ≤ b) (λ b. is_blank b ≡ false) not-blank word h.bytes

pub word-line : (word : List ℕ) → IsWord word → IsLine word
word-line word h = all_weaker (λ b. 33 ≤ b) (λ b. is_newline b ≡ false) not-newline word h.bytes

abbrev pub lexeme : ℕ → List ℕ → List ℕ → Lexeme
lexeme n word text = record { text = word; quoted = quote_of text; line = n }

some-bytes : (word : List ℕ) → 1 ≤ length word → is_some_bytes word ≡ true
some-bytes word h = lt-ltb 0 (length word) (omega (arith, h))

-- a word before a blank, and a last one
pub lexemes-next : (n : ℕ) (word rest : List ℕ) → IsWord word → lexemes_on n (word ++ 32 ∷ rest) ≡ lexeme n word (word ++ 32 ∷ rest) ∷ lexemes_on n rest
lexemes-next n word rest h =
    ap (lexemes_at n (word ++ 32 ∷ rest)) (parts-at is_blank word 32 rest (word-blanks word h) refl)
    ∙ ap (λ t. (cond t (lexeme n word (word ++ 32 ∷ rest) ∷ []) []) ++ lexemes_at n (drop (length word + 1) (word ++ 32 ∷ rest)) (parts is_blank rest)) (some-bytes word h.some)
    ∙ ap (λ (t : List ℕ). lexeme n word (word ++ 32 ∷ rest) ∷ lexemes_at n t (parts is_blank rest)) (drop-past word 32 rest)

pub lexemes-last : (n : ℕ) (word : List ℕ) → IsWord word → lexemes_on n word ≡ lexeme n word word ∷ []
lexemes-last n word h =
    ap (lexemes_at n word) (parts-end is_blank word (word-blanks word h))
    ∙ ap (λ t. (cond t (lexeme n word word ∷ []) []) ++ []) (some-bytes word h.some)

-- the tokens of spaced words
abbrev pub word_lexemes : ℕ → List (List ℕ) → List Lexeme
word_lexemes n [] = []
word_lexemes n (word ∷ words) = lexeme n word (spaced (word ∷ words)) ∷ word_lexemes n words

pub words-plain : (n : ℕ) (words : List (List ℕ)) → AllByRecursion IsWord words → lexemes_on n (spaced words) ≡ word_lexemes n words
words-plain n [] h = refl
words-plain n (word ∷ []) h = ap (lexemes_on n) (append-nil word) ∙ lexemes-last n word h.0 ∙ ap (λ (t : List ℕ). lexeme n word t ∷ []) (sym (append-nil word))
words-plain n (word ∷ next ∷ words) h = lexemes-next n word (spaced (next ∷ words)) h.0 ∙ ap (λ xs. lexeme n word (spaced (word ∷ next ∷ words)) ∷ xs) (words-plain n (next ∷ words) h.1)

spaced-more : (words : List (List ℕ)) → AllByRecursion IsLine words → IsLine (flat_map (λ next. 32 ∷ next) words)
spaced-more [] h = tt
spaced-more (word ∷ words) h = (refl, all_append (λ b. is_newline b ≡ false) word (flat_map (λ next. 32 ∷ next) words) h.0 (spaced-more words h.1))

pub spaced-line : (words : List (List ℕ)) → AllByRecursion IsLine words → IsLine (spaced words)
spaced-line [] h = tt
spaced-line (word ∷ words) h = all_append (λ b. is_newline b ≡ false) word (flat_map (λ next. 32 ∷ next) words) h.0 (spaced-more words h.1)

-- ---- numbers are words

pub digits-word : (n : ℕ) (ds : List ℕ) → Writes n ds → IsWord ds
digits-word n ds h = record { some = h.some; bytes = all_weaker IsDigitByte (λ b. 33 ≤ b) (λ b d. omega (arith, d.0)) ds h.digits }

pub decimal-word : (n : ℕ) → IsUnsigned n → IsWord (decimal n)
decimal-word n low = digits-word n (decimal n) (decimal-writes n (omega (arith, low)))

pub signed-word : (z : ℤ) → IsSigned z → IsWord (signed_decimal z)
signed-word (pos n) h = digits-word n (decimal n) (decimal-writes n (omega (arith, ints, h.1)))
signed-word (negsuc n) h = let w = digits-word (suc n) (decimal (suc n)) (decimal-writes (suc n) (omega (arith, ints, h.0))) in record { some = omega arith; bytes = (omega arith, w.bytes) }

pub fixed-word : (v : ℤ) → IsFixed v → IsWord (fixed_text v)
fixed-word v low = let h = fixed-bytes v low in record { some = h.0; bytes = h.1 }

-- ---- lines that are no header lines

-- a line of a body
pub record IsBodyLine (line : List ℕ) : Type 0 where
  pub one_line : IsLine line
  pub no_header : is_header line ≡ false

not-header : (b : ℕ) (rest : List ℕ) → is_blank b ≡ false → (b == 36) ≡ false → is_header (b ∷ rest) ≡ false
not-header b rest plain other = let here : front (b ∷ rest) ≡ 0 = ap (λ t. cond t (1 + prefix_len is_blank rest) 0) plain in ap (λ k. get_or (b ∷ rest) k 0 == 36) here ∙ other

digits-first : (ds rest : List ℕ) → 1 ≤ length ds → AllByRecursion IsDigitByte ds → is_header (ds ++ rest) ≡ false
digits-first [] rest some h = absurd (omega arith)
digits-first (d ∷ ds) rest some h = not-header d (ds ++ rest) (not-blank d (omega (arith, h.0.0))) (ne_eqb d 36 (λ e. omega (arith, h.0.0, e)))

-- a line that begins with a number
pub number-first : (n : ℕ) (rest : List ℕ) → IsUnsigned n → is_header (decimal n ++ rest) ≡ false
number-first n rest low = let w = decimal-writes n (omega (arith, low)) in digits-first (decimal n) rest w.some w.digits

pub words-body : (n : ℕ) (words : List (List ℕ)) → IsUnsigned n → AllByRecursion IsWord words → IsBodyLine (spaced (decimal n ∷ words))
words-body n words low h = record { one_line = spaced-line (decimal n ∷ words) (all_weaker IsWord IsLine word-line (decimal n ∷ words) (decimal-word n low, h)); no_header = number-first n (flat_map (λ next. 32 ∷ next) words) low }

pub count-body : (n : ℕ) → IsUnsigned n → IsBodyLine (decimal n)
count-body n low = record { one_line = word-line (decimal n) (decimal-word n low); no_header = ap is_header (sym (append-nil (decimal n))) ∙ number-first n [] low }

-- ---- quoted texts

pub one-line : (text : List ℕ) → IsOneLine text → IsLine text
one-line [] h = tt
one-line (b ∷ bs) h = let both = or_parts (is_newline b) (list_any is_newline bs) h in (both.0, one-line bs both.1)

pub quote-line : (text : List ℕ) → IsOneLine text → IsLine (quote text)
quote-line text h = (refl, all_append (λ b. is_newline b ≡ false) text (34 ∷ []) (one-line text h) (refl, tt))

pub quote-body : (text : List ℕ) → IsOneLine text → IsBodyLine (quote text)
quote-body text h = record { one_line = quote-line text h; no_header = refl }

pub quote-back : (text : List ℕ) → quote_of (quote text) ≡ Some text
quote-back text = ap (λ k. cond (nat_le 2 k && (true && (get_or q (k - 1) 0 == 34))) (Some (slice_range q 1 (k - 1))) None) far
    ∙ ap (λ t. cond t (Some (slice_range q 1 (length text + 2 - 1))) None) test ∙ ap Some inside
  where
    q : List ℕ
    q = quote text

    far : back q ≡ length text + 2
    far = ap (λ r. length q - prefix_len is_blank r) (reverse-append (34 ∷ text) (34 ∷ [])) ∙ omega (arith, length-append text (34 ∷ []))

    last : length text + 2 - 1 ≡ length (34 ∷ text)
    last = omega arith

    test : (nat_le 2 (length text + 2) && (true && (get_or q (length text + 2 - 1) 0 == 34))) ≡ true
    test = ap₂ (λ a b. a && (true && b)) (le-leb 2 (length text + 2) (omega arith)) (ap (λ k. get_or q k 0 == 34) last ∙ ap (λ b. b == 34) (get_or-append_seam (34 ∷ text) 34 [] 0))

    count : length text + 2 - 1 - 1 ≡ length text
    count = omega arith

    inside : slice_range q 1 (length text + 2 - 1) ≡ text
    inside = ap (λ k. take k (text ++ 34 ∷ [])) count ∙ take-append-le (length text) text (34 ∷ []) (omega arith) ∙ take-length text

-- tokens of a line are on that line
pub lexemes-line : (n : ℕ) (text : List ℕ) (runs : List (List ℕ)) → AllByRecursion (λ (x : Lexeme). x.line ≡ n) (lexemes_at n text runs)
lexemes-line n text [] = tt
lexemes-line n text (run ∷ runs) = go (is_some_bytes run) (lexemes-line n (drop (length run + 1) text) runs)
  where
    go : (t : Bool) → AllByRecursion (λ (x : Lexeme). x.line ≡ n) (lexemes_at n (drop (length run + 1) text) runs) → AllByRecursion (λ (x : Lexeme). x.line ≡ n) ((cond t (lexeme n run text ∷ []) []) ++ lexemes_at n (drop (length run + 1) text) runs)
    go true h = (refl, h)
    go false h = h

-- the first token of a quoted text, and others on its line
pub record Quoted (n : ℕ) (text : List ℕ) (lexemes : List Lexeme) : Type 0 where
  pub first : Lexeme
  pub others : List Lexeme
  pub whole : lexemes ≡ first ∷ others
  pub quoted : first.quoted ≡ Some text
  pub on_line : first.line ≡ n
  pub others_on_line : AllByRecursion (λ (x : Lexeme). x.line ≡ n) others

pub quote-lexemes : (n : ℕ) (text : List ℕ) → Quoted n text (lexemes_on n (quote text))
quote-lexemes n text = go (parts is_blank (text ++ 34 ∷ []))
  where
    go : (runs : List (List ℕ)) → Quoted n text (lexemes_at n (quote text) (onto_first 34 runs))
    go [] = record { first = lexeme n (34 ∷ []) (quote text); others = []; whole = refl; quoted = quote-back text; on_line = refl; others_on_line = tt }
    go (run ∷ runs) = record {
      first = lexeme n (34 ∷ run) (quote text);
      others = lexemes_at n (drop (length (34 ∷ run) + 1) (quote text)) runs;
      whole = ap (λ t. (cond t (lexeme n (34 ∷ run) (quote text) ∷ []) []) ++ lexemes_at n (drop (length (34 ∷ run) + 1) (quote text)) runs) (some-bytes (34 ∷ run) (omega arith));
      quoted = quote-back text;
      on_line = refl;
      others_on_line = lexemes-line n (drop (length (34 ∷ run) + 1) (quote text)) runs;
    }

-- ---- the lines of a body

-- tokens after a line
abbrev pub AreLater : ℕ → List Lexeme → Type 0
AreLater n xs = AllByRecursion (λ (x : Lexeme). n < x.line) xs

-- what is left after the tokens of a line
pub past-line : (n : ℕ) (xs rest : List Lexeme) → AllByRecursion (λ (x : Lexeme). x.line ≡ n) xs → AreLater n rest → after_line n (xs ++ rest) ≡ rest
past-line n [] [] h late = refl
past-line n [] (x ∷ rest) h late = ap (λ t. cond t (after_line n rest) (x ∷ rest)) (ne_eqb x.line n (λ e. omega (arith, late.0, e)))
past-line n (x ∷ xs) rest h late = ap (λ t. cond t (after_line n (xs ++ rest)) (x ∷ (xs ++ rest))) (eq-eqb x.line n h.0) ∙ past-line n xs rest h.1 late

-- lines of a body, as tokens
abbrev pub body_lines : ℕ → List (List ℕ) → List Lexeme
body_lines n [] = []
body_lines n (line ∷ lines) = lexemes_on n line ++ body_lines (n + 1) lines

pub body-later : (n m : ℕ) (lines : List (List ℕ)) → n < m → AreLater n (body_lines m lines)
body-later n m [] low = tt
body-later n m (line ∷ lines) low = all_append (λ (x : Lexeme). n < x.line) (lexemes_on m line) (body_lines (m + 1) lines)
    (all_weaker (λ (x : Lexeme). x.line ≡ m) (λ (x : Lexeme). n < x.line) (λ x e. omega (arith, low, e)) (lexemes_on m line) (lexemes-line m line (parts is_blank line))) (body-later n (m + 1) lines (omega (arith, low)))

-- a body up to a header line
pub body-up_to : (n : ℕ) (lines : List (List ℕ)) (name : List ℕ) (more : List (List ℕ)) → AllByRecursion IsBodyLine lines → body_in n (lines ++ (36 ∷ name) ∷ more) ≡ body_lines n lines
body-up_to n [] name more h = refl
body-up_to n (line ∷ lines) name more h = ap (λ t. cond t [] (lexemes_on n line ++ body_in (n + 1) (lines ++ (36 ∷ name) ∷ more))) h.0.no_header ∙ ap (λ xs. lexemes_on n line ++ xs) (body-up_to (n + 1) lines name more h.1)

-- the blocks after the lines of a body
pub blocks-past : (n : ℕ) (lines more : List (List ℕ)) → AllByRecursion IsBodyLine lines → blocks_in n (lines ++ more) ≡ blocks_in (n + length lines) more
blocks-past n [] more h = ap (λ k. blocks_in k more) none
  where
    none : n ≡ n + 0
    none = omega arith
blocks-past n (line ∷ lines) more h =
    let k : n + 1 + length lines ≡ n + length (line ∷ lines) = omega arith in
    ap (λ t. cond t (record { name = slice_range line (front line + 1) (back line); line = n; body = body_in (n + 1) (lines ++ more) } ∷ blocks_in (n + 1) (lines ++ more)) (blocks_in (n + 1) (lines ++ more))) h.0.no_header
    ∙ blocks-past (n + 1) lines more h.1 ∙ ap (λ j. blocks_in j more) k
