-- What stands on the lines of a file depends on these lines alone.
use Rattle.std.proofs.Common.{◌≡◌, ◌⊎◌, ℕ, suc, ◌+◌, ◌-◌, ◌<◌, ◌≤◌, Bool, true, false, cond, not, List, [], ◌∷◌, ◌++◌, length, take, drop, Option, Some, None, inl, inr, ⊎_elim, refl, sym, ap, ap₂, ◌∙◌, arith, append_assoc, append-nil, length-append, length-drop}
use Rattle.std.specs.Prelude.{option_map, slice_range}
use Rattle.std.specs.List.{AllByRecursion, before_first, position_or_len}
use Rattle.std.proofs.lemmas.Bool.{and_parts, leb-true, eqb-true, cases_lt}
use Rattle.std.proofs.lemmas.List.{drop-append-le, take-append-le, length-take}
use Rattle.std.proofs.Math.Seq.{drop-append-add}
use Rattle.plain_lists.proofs.Each.{all_map, all_weaker}
use Rattle.input_defs.specs.line_defs.Rows.{is_blank, is_newline, parts, onto_first, lines_of, is_some_bytes}
use Rattle.input_defs.specs.declared.scan_defs.Token.{Token}
use Rattle.input_defs.specs.scan_defs.Lines.{Line, lines_at, rest_of_line, front, back}
use Rattle.input_defs.specs.scan_defs.Items.{Item, Header, Word, text_of, is_header, name_of, tokens_at, tokens_on, words_on, items_on}
use Rattle.input_defs.specs.scan_defs.Quotes.{is_quoted, quoted_on, line_from}
use Rattle.input_defs.specs.Bodies.{Lexeme, lexeme_of}

-- a front is not longer than the list
length_take : (n : ℕ) (xs : List ℕ) → length (take n xs) ≤ length xs
length_take n xs = omega (arith, length-take n xs)

-- ---- a line in a file

-- nothing, or an LF and more
pub Ending : List ℕ → Type 0
Ending rest = (rest ≡ []) ⊎ ((more : List ℕ) × (rest ≡ 10 ∷ more))

-- the line stands in the file at its place, and ends there
pub record Stands (bytes : List ℕ) (line : Line) : Type 0 where
  pub before : List ℕ
  pub rest : List ℕ
  pub whole : bytes ≡ before ++ (line.text ++ rest)
  pub place : length before ≡ line.start
  pub ends : Ending rest

-- the bytes from a place of the line on
drop-in : (bytes : List ℕ) (line : Line) (s : Stands bytes line) (i : ℕ) → drop (line.start + i) bytes ≡ drop i (line.text ++ s.rest)
drop-in bytes line s i = ap₂ (λ k (bs : List ℕ). drop (k + i) bs) (sym s.place) s.whole ∙ drop-append-add s.before (line.text ++ s.rest) i

pub slice-in : (bytes : List ℕ) (line : Line) → Stands bytes line → (i j : ℕ) → j ≤ length line.text → slice_range bytes (line.start + i) (line.start + j) ≡ slice_range line.text i j
slice-in bytes line s i j within =
    let same : line.start + j - (line.start + i) ≡ j - i = omega arith in
    ap₂ (λ k (bs : List ℕ). take k bs) same (drop-in bytes line s i) ∙ ⊎_elim
    (λ (past : length line.text < i). let none : j - i ≡ 0 = omega (arith, past, within) in ap (λ k. take k (drop i (line.text ++ s.rest))) none ∙ sym (ap (λ k. take k (drop i line.text)) none))
    (λ (low : i ≤ length line.text). ap (λ (bs : List ℕ). take (j - i) bs) (drop-append-le i line.text s.rest low)
    ∙ take-append-le (j - i) (drop i line.text) s.rest (omega (arith, length-drop i line.text, within)))
    (cases_lt (length line.text) i)

-- the rest of a line ends where the line ends
before-newline : (ys rest : List ℕ) → Ending rest → before_first is_newline (ys ++ rest) ≡ before_first is_newline ys
unfolding Ending
before-newline [] rest (inl none) = ap (before_first is_newline) none
before-newline [] rest (inr some) = ap (before_first is_newline) some.1
before-newline (y ∷ ys) rest ends = go (is_newline y) (before-newline ys rest ends)
  where
    longer : (xs : List ℕ) (n : ℕ) → take (1 + n) (y ∷ xs) ≡ y ∷ take n xs
    longer xs n = let k : 1 + n ≡ suc n = omega arith in ap (λ m. take m (y ∷ xs)) k

    go : (b : Bool) → before_first is_newline (ys ++ rest) ≡ before_first is_newline ys
        → take (cond (not b) (1 + position_or_len is_newline (ys ++ rest)) 0) (y ∷ (ys ++ rest)) ≡ take (cond (not b) (1 + position_or_len is_newline ys) 0) (y ∷ ys)
    go true r = refl
    go false r = longer (ys ++ rest) (position_or_len is_newline (ys ++ rest)) ∙ (ap (λ zs. y ∷ zs) r ∙ sym (longer ys (position_or_len is_newline ys)))

pub rest-in : (bytes : List ℕ) (line : Line) → Stands bytes line → (i : ℕ) → i ≤ length line.text → rest_of_line bytes (line.start + i) ≡ before_first is_newline (drop i line.text)
rest-in bytes line s i low = ap (before_first is_newline) (drop-in bytes line s i ∙ drop-append-le i line.text s.rest low) ∙ before-newline (drop i line.text) s.rest s.ends

-- ---- a token in a line

pub record Within (line : Line) (t : Token) : Type 0 where
  pub from : ℕ
  pub to : ℕ
  pub start : t.start ≡ line.start + from
  pub end : t.end ≡ line.start + to
  pub from_low : from ≤ length line.text
  pub to_low : to ≤ length line.text
  pub number : t.line ≡ line.number

-- its bytes
pub text-in : (bytes : List ℕ) (line : Line) (t : Token) → Stands bytes line → (w : Within line t) → text_of bytes t ≡ slice_range line.text w.from w.to
text-in bytes line t s w = ap₂ (λ i j. slice_range bytes i j) w.start w.end ∙ slice-in bytes line s w.from w.to w.to_low

pub text-same : (a b : List ℕ) (line : Line) (t : Token) → Stands a line → Stands b line → Within line t → text_of a t ≡ text_of b t
text-same a b line t s u w = text-in a line t s w ∙ sym (text-in b line t u w)

-- the quoted text that begins with it
quoted-same : (a b : List ℕ) (line : Line) (t : Token) → Stands a line → Stands b line → (w : Within line t) → option_map (text_of a) (quoted_on (line_from a t)) ≡ option_map (text_of b) (quoted_on (line_from b t))
unfolding quoted_on
quoted-same a b line t s u w =
    ap (λ (r : List ℕ). option_map (text_of a) (quoted_on (record { start = t.start; number = t.line; text = r }))) (rest a s)
    ∙ (go (is_quoted tail) refl ∙ sym (ap (λ (r : List ℕ). option_map (text_of b) (quoted_on (record { start = t.start; number = t.line; text = r }))) (rest b u)))
  where
    tail : List ℕ
    tail = before_first is_newline (drop w.from line.text)

    rest : (bytes : List ℕ) → Stands bytes line → rest_of_line bytes t.start ≡ tail
    rest bytes st = ap (rest_of_line bytes) w.start ∙ rest-in bytes line st w.from w.from_low

    inner : Token
    inner = record { start = t.start + front tail + 1; end = t.start + back tail - 1; line = t.line }

    short : length tail ≤ length line.text - w.from
    short = omega (arith, length_take (position_or_len is_newline (drop w.from line.text)) (drop w.from line.text), length-drop w.from line.text)

    within : is_quoted tail ≡ true → Within line inner
    within q = let both = leb-true (front tail + 2) (back tail) (and_parts _ _ q).0 in record {
      from = w.from + front tail + 1;
      to = w.from + back tail - 1;
      start = omega (arith, w.start);
      end = omega (arith, w.start, both);
      from_low = omega (arith, both, short, w.from_low);
      to_low = omega (arith, both, short, w.from_low);
      number = w.number;
    }

    go : (t' : Bool) → is_quoted tail ≡ t' → option_map (text_of a) (cond t' (Some inner) None) ≡ option_map (text_of b) (cond t' (Some inner) None)
    go true q = ap Some (text-same a b line inner s u (within q))
    go false q = refl

pub lexeme-same : (a b : List ℕ) (line : Line) (t : Token) → Stands a line → Stands b line → Within line t → lexeme_of a t ≡ lexeme_of b t
unfolding lexeme_of
lexeme-same a b line t s u w = ap₂ (λ (x : List ℕ) (q : Option (List ℕ)). lexeme x q) (text-same a b line t s u w) (quoted-same a b line t s u w)
  where
    lexeme : List ℕ → Option (List ℕ) → Lexeme
    lexeme x q = record { text = x; quoted = q; line = t.line }

-- ---- the items of a line

-- the length of runs with one blank after each
total : List (List ℕ) → ℕ
total [] = 0
total (run ∷ runs) = length run + 1 + total runs

total-parts : (test : ℕ → Bool) (text : List ℕ) → total (parts test text) ≡ length text + 1
unfolding total
total-parts test [] = refl
total-parts test (b ∷ bs) = go (test b) (parts test bs) (total-parts test bs)
  where
    go : (t : Bool) (runs : List (List ℕ)) → total runs ≡ length bs + 1 → total (cond t ([] ∷ runs) (onto_first b runs)) ≡ length (b ∷ bs) + 1
    go true runs r = omega (arith, r)
    go false [] r = absurd (omega (arith, r))
    go false (run ∷ runs) r = omega (arith, r)

-- a token between two places of a line
record Between (line : Line) (low high : ℕ) (t : Token) : Type 0 where
  from : ℕ
  to : ℕ
  start : t.start ≡ line.start + from
  end : t.end ≡ line.start + to
  low_from : low ≤ from
  rising : from ≤ to
  to_high : to ≤ high
  number : t.line ≡ line.number

tokens-between : (line : Line) (at start high : ℕ) (runs : List (List ℕ)) → start ≡ line.start + at → at + total runs ≤ high + 1 → AllByRecursion (Between line 0 high) (tokens_at start line.number runs)
unfolding total
tokens-between line at start high [] place fits = tt
tokens-between line at start high (run ∷ runs) place fits = go (is_some_bytes run) (tokens-between line (at + length run + 1) (start + length run + 1) high runs (omega (arith, place)) (omega (arith, fits)))
  where
    token : Token
    token = record { start = start; end = start + length run; line = line.number }

    go : (b : Bool) → AllByRecursion (Between line 0 high) (tokens_at (start + length run + 1) line.number runs) → AllByRecursion (Between line 0 high) ((cond b (token ∷ []) []) ++ tokens_at (start + length run + 1) line.number runs)
    go true r = (record { from = at; to = at + length run; start = place; end = omega (arith, place); low_from = omega arith; rising = omega arith; to_high = omega (arith, fits); number = refl }, r)
    go false r = r

tokens-within : (line : Line) → AllByRecursion (Within line) (tokens_on line)
unfolding tokens_on
tokens-within line = all_weaker (Between line 0 (length line.text)) (Within line) within (tokens_at line.start line.number (parts is_blank line.text))
    (tokens-between line 0 line.start (length line.text) (parts is_blank line.text) (omega arith) (omega (arith, total-parts is_blank line.text)))
  where
    within : (t : Token) → Between line 0 (length line.text) t → Within line t
    within t b = record { from = b.from; to = b.to; start = b.start; end = b.end; from_low = omega (arith, b.rising, b.to_high); to_low = b.to_high; number = b.number }

-- the token of an item
abbrev pub token_of : Item → Token
token_of (Header t) = t
token_of (Word t) = t

-- the name on a header line may begin past its end where it is empty
name-text : (a b : List ℕ) (line : Line) → Stands a line → Stands b line → text_of a (name_of line) ≡ text_of b (name_of line)
unfolding name_of
name-text a b line s u = same a s ∙ sym (same b u)
  where
    same : (bytes : List ℕ) → Stands bytes line → slice_range bytes (line.start + front line.text + 1) (line.start + back line.text) ≡ slice_range line.text (front line.text + 1) (back line.text)
    same bytes st = let k : line.start + front line.text + 1 ≡ line.start + (front line.text + 1) = omega arith in
        ap (λ i. slice_range bytes i (line.start + back line.text)) k ∙ slice-in bytes line st (front line.text + 1) (back line.text) (omega arith)

name-number : (line : Line) → (name_of line).line ≡ line.number
unfolding name_of
name-number line = refl

-- both files say the same of an item, which is on a line up to this one
unfoldable pub SaysSame : List ℕ → List ℕ → ℕ → Item → Type 0
SaysSame a b l (Header t) = (text_of a t ≡ text_of b t) × (t.line ≤ l)
SaysSame a b l (Word t) = (lexeme_of a t ≡ lexeme_of b t) × (t.line ≤ l)

pub items_on-same : (a b : List ℕ) (l : ℕ) (line : Line) → Stands a line → Stands b line → line.number ≤ l → AllByRecursion (SaysSame a b l) (items_on line)
unfolding items_on SaysSame
items_on-same a b l line s u low = go (is_header line.text)
  where
    go : (t : Bool) → AllByRecursion (SaysSame a b l) (cond t (Header (name_of line) ∷ []) (words_on line))
    go true = ((name-text a b line s u, omega (arith, name-number line, low)), tt)
    go false = all_map (SaysSame a b l) Word (tokens_on line) (all_weaker (Within line) (λ t. (lexeme_of a t ≡ lexeme_of b t) × (t.line ≤ l)) (λ t w. (lexeme-same a b line t s u w, omega (arith, w.number, low))) (tokens_on line) (tokens-within line))

-- the items of a line after this one
pub items_on-late : (l : ℕ) (line : Line) → l < line.number → AllByRecursion (λ item. l < (token_of item).line) (items_on line)
unfolding items_on
items_on-late l line late = go (is_header line.text)
  where
    go : (t : Bool) → AllByRecursion (λ item. l < (token_of item).line) (cond t (Header (name_of line) ∷ []) (words_on line))
    go true = (omega (arith, name-number line, late), tt)
    go false = all_map (λ item. l < (token_of item).line) Word (tokens_on line) (all_weaker (Within line) (λ t. l < t.line) (λ t w. omega (arith, w.number, late)) (tokens_on line) (tokens-within line))

-- ---- the lines of a file

-- texts with an LF between two of them
joined : List (List ℕ) → List ℕ
joined [] = []
joined (text ∷ []) = text
joined (text ∷ next ∷ texts) = text ++ 10 ∷ joined (next ∷ texts)

joined-parts : (bytes : List ℕ) → joined (parts is_newline bytes) ≡ bytes
unfolding total joined
joined-parts [] = refl
joined-parts (b ∷ bs) = go (is_newline b) refl (parts is_newline bs) (total-parts is_newline bs) (joined-parts bs)
  where
    go : (t : Bool) → is_newline b ≡ t → (texts : List (List ℕ)) → total texts ≡ length bs + 1 → joined texts ≡ bs → joined (cond t ([] ∷ texts) (onto_first b texts)) ≡ b ∷ bs
    go t e [] r same = absurd (omega (arith, r))
    go true e (text ∷ texts) r same = ap₂ (λ (x : ℕ) xs. x ∷ xs) (sym (eqb-true b 10 e)) same
    go false e (text ∷ []) r same = ap (λ xs. b ∷ xs) same
    go false e (text ∷ next ∷ texts) r same = ap (λ xs. b ∷ xs) same

-- each line stands in the file
lines-stand : (bytes before : List ℕ) (start number : ℕ) (texts : List (List ℕ)) → bytes ≡ before ++ joined texts → length before ≡ start → AllByRecursion (Stands bytes) (lines_at start number texts)
unfolding joined Ending
lines-stand bytes before start number [] whole place = tt
lines-stand bytes before start number (text ∷ []) whole place = (record { before = before; rest = []; whole = whole ∙ ap (λ xs. before ++ xs) (sym (append-nil text)); place = place; ends = inl refl }, tt)
lines-stand bytes before start number (text ∷ next ∷ texts) whole place = (
  record { before = before; rest = 10 ∷ joined (next ∷ texts); whole = whole; place = place; ends = inr (joined (next ∷ texts), refl) },
  lines-stand bytes (before ++ (text ++ 10 ∷ [])) (start + length text + 1) (number + 1) (next ∷ texts)
      (whole ∙ sym (append_assoc before (text ++ 10 ∷ []) (joined (next ∷ texts)) ∙ ap (λ xs. before ++ xs) (append_assoc text (10 ∷ []) (joined (next ∷ texts)))))
      (omega (arith, length-append before (text ++ 10 ∷ []), length-append text (10 ∷ []), place)),
)

pub file-stands : (bytes : List ℕ) → AllByRecursion (Stands bytes) (lines_at 0 1 (lines_of bytes))
unfolding lines_of
file-stands bytes = lines-stand bytes [] 0 1 (parts is_newline bytes) (sym (joined-parts bytes)) refl

-- the first lines and the others
pub lines-apart : (start number : ℕ) (ts us : List (List ℕ)) → (start' : ℕ) × (lines_at start number (ts ++ us) ≡ lines_at start number ts ++ lines_at start' (number + length ts) us)
lines-apart start number [] us = (start, ap (λ n. lines_at start n us) none)
  where
    none : number ≡ number + 0
    none = omega arith
lines-apart start number (t ∷ ts) us =
    let rest = lines-apart (start + length t + 1) (number + 1) ts us in
    let k : number + 1 + length ts ≡ number + length (t ∷ ts) = omega arith in
    (rest.0, ap (λ ls. record { start = start; number = number; text = t } ∷ ls) (rest.1 ∙ ap (λ n. lines_at (start + length t + 1) (number + 1) ts ++ lines_at rest.0 n us) k))

-- the numbers of lines
pub numbers-low : (start number l : ℕ) (texts : List (List ℕ)) → number + length texts ≤ l + 1 → AllByRecursion (λ (line : Line). line.number ≤ l) (lines_at start number texts)
numbers-low start number l [] low = tt
numbers-low start number l (t ∷ ts) low = (omega (arith, low), numbers-low (start + length t + 1) (number + 1) l ts (omega (arith, low)))

pub numbers-late : (start number l : ℕ) (texts : List (List ℕ)) → l < number → AllByRecursion (λ (line : Line). l < line.number) (lines_at start number texts)
numbers-late start number l [] late = tt
numbers-late start number l (t ∷ ts) late = (late, numbers-late (start + length t + 1) (number + 1) l ts (omega (arith, late)))
