-- What stands ahead of a place, over gaps, tokens and header lines.
use Rattle.std.proofs.Common.{◌≡◌, ℕ, suc, ◌+◌, ◌-◌, ◌<◌, ◌≤◌, Bool, true, false, not, cond, eqb, ◌&&◌, List, [], ◌∷◌, ◌++◌, length, map, take, drop, get_or, refl, sym, ap, ◌∙◌, arith}
use Rattle.std.specs.Prelude.{flat_map}
use Rattle.std.specs.List.{position_or_len}
use Rattle.std.proofs.lemmas.Bool.{lt-ltb, eqb-true, cond-true, cond-false}
use Rattle.std.proofs.lemmas.List.{length-take-le, length-drop, drop_all, drop_more, get_or-take}
use Rattle.std.proofs.lemmas.List.Sums.{prefix_len-le-length, passes_at_first, fails_before_first}
use Rattle.input_defs.specs.line_defs.Rows.{is_blank, is_newline, is_some_bytes, onto_first, parts, lines_of}
use Rattle.input_defs.specs.declared.scan_defs.Token.{Token}
use Rattle.input_defs.specs.scan_defs.Lines.{Line, lines_at, front, back}
use Rattle.input_defs.specs.scan_defs.Items.{Item, Header, Word, is_header, name_of, tokens_on, words_on, items_on, items_of}
use Rattle.scan.specs.Cursors.{is_gap}
use Rattle.scan.proofs.Runs.{others, parts-first, parts-from, gap-in-line, back-cons, back-pos}

-- what stands ahead, where this is left of the file, from this place and line on
abbrev pub left : Bool → ℕ → ℕ → List ℕ → List Item
left indent place line bytes = items_of indent (lines_at place line (lines_of bytes))

-- what is left of a line
abbrev pub at : ℕ → ℕ → List ℕ → Line
at place line text = record { start = place; number = line; text = text }

-- ---- gaps

pub whole-lines : (lines : List Line) → items_of true lines ≡ flat_map items_on lines
unfolding items_of
whole-lines [] = refl
whole-lines (line ∷ lines) = refl

-- a line without bytes has no items
pub no-items : (whole : Bool) (place line : ℕ) → cond whole (items_on (at place line [])) (words_on (at place line [])) ≡ []
unfolding items_on tokens_on
no-items true place line = refl
no-items false place line = refl

pub over-newline : (indent : Bool) (place line b : ℕ) (bytes : List ℕ) → is_newline b ≡ true → left indent place line (b ∷ bytes) ≡ left true (place + 1) (line + 1) bytes
unfolding items_of lines_of
over-newline indent place line b bytes is =
    let zero-is : place + 0 + 1 ≡ place + 1 = omega arith in
    rw (is, no-items indent place line, zero-is) (sym (whole-lines (lines_at (place + 1) (line + 1) (lines_of bytes))))

-- ---- a blank before a line

pub front-blank : (b : ℕ) (text : List ℕ) → is_blank b ≡ true → front (b ∷ text) ≡ front text + 1
front-blank b text is = rw is (omega arith)

header-blank : (b : ℕ) (text : List ℕ) → is_blank b ≡ true → is_header (b ∷ text) ≡ is_header text
header-blank b text is = let one : front text + 1 ≡ suc (front text) = omega arith in rw (front-blank b text is, one) refl

tokens-blank : (place line b : ℕ) (text : List ℕ) → is_blank b ≡ true → tokens_on (at place line (b ∷ text)) ≡ tokens_on (at (place + 1) line text)
unfolding tokens_on
tokens-blank place line b text is = let zero-is : place + 0 + 1 ≡ place + 1 = omega arith in rw (is, zero-is) refl

name-blank : (place line b : ℕ) (text : List ℕ) → is_blank b ≡ true → is_header text ≡ true → name_of (at place line (b ∷ text)) ≡ name_of (at (place + 1) line text)
unfolding name_of
name-blank place line b text is header =
    let some : 0 < back text = back-pos text (eqb-true (get_or text (front text) 0) 36 header) in
    let f : place + front (b ∷ text) + 1 ≡ place + 1 + front text + 1 = let e = front-blank b text is in omega (arith, e) in
    let k : place + back (b ∷ text) ≡ place + 1 + back text = let e = back-cons b text some in omega (arith, e) in
    rw (f, k) refl

items-blank-at : (h : Bool) (place line b : ℕ) (text : List ℕ) → is_blank b ≡ true → is_header text ≡ h → items_on (at place line (b ∷ text)) ≡ items_on (at (place + 1) line text)
unfolding items_on
items-blank-at true place line b text is header =
    let e : is_header (b ∷ text) ≡ true = header-blank b text is ∙ header in
    let left-is = cond-true (is_header (b ∷ text)) (Header (name_of (at place line (b ∷ text))) ∷ []) (words_on (at place line (b ∷ text))) e in
    let right-is = cond-true (is_header text) (Header (name_of (at (place + 1) line text)) ∷ []) (words_on (at (place + 1) line text)) header in
    left-is ∙ ap (λ t. Header t ∷ []) (name-blank place line b text is header) ∙ sym right-is
items-blank-at false place line b text is header =
    let e : is_header (b ∷ text) ≡ false = header-blank b text is ∙ header in
    let left-is = cond-false (is_header (b ∷ text)) (Header (name_of (at place line (b ∷ text))) ∷ []) (words_on (at place line (b ∷ text))) e in
    let right-is = cond-false (is_header text) (Header (name_of (at (place + 1) line text)) ∷ []) (words_on (at (place + 1) line text)) header in
    left-is ∙ ap (map Word) (tokens-blank place line b text is) ∙ sym right-is

-- the items of a line with a blank before it
over-blank-line : (whole : Bool) (place line b : ℕ) (text : List ℕ) → is_blank b ≡ true
    → cond whole (items_on (at place line (b ∷ text))) (words_on (at place line (b ∷ text))) ≡ cond whole (items_on (at (place + 1) line text)) (words_on (at (place + 1) line text))
over-blank-line true place line b text is = items-blank-at (is_header text) place line b text is refl
over-blank-line false place line b text is = ap (map Word) (tokens-blank place line b text is)

over-blank-lines : (indent : Bool) (place line b : ℕ) (ps : List (List ℕ)) (first : List ℕ) → ps ≡ first ∷ others ps → is_blank b ≡ true
    → items_of indent (lines_at place line (onto_first b ps)) ≡ items_of indent (lines_at (place + 1) line ps)
unfolding items_of
over-blank-lines indent place line b [] first e is = absurd cc
over-blank-lines indent place line b (text ∷ ps) first e is =
    let n : place + suc (length text) + 1 ≡ place + 1 + length text + 1 = omega arith in
    rw (over-blank-line indent place line b text is, n) refl

pub over-blank : (indent : Bool) (place line b : ℕ) (bytes : List ℕ) → is_newline b ≡ false → is_blank b ≡ true → left indent place line (b ∷ bytes) ≡ left indent (place + 1) line bytes
unfolding lines_of
over-blank indent place line b bytes other is = rw other (over-blank-lines indent place line b (parts is_newline bytes) (take (position_or_len is_newline bytes) bytes) (parts-first is_newline bytes) is)

-- ---- a token

-- the first line of what is left, and the lines after it
abbrev pub first-line : List ℕ → List ℕ
first-line bytes = take (position_or_len is_newline bytes) bytes

pub lines-first : (bytes : List ℕ) → lines_of bytes ≡ first-line bytes ∷ others (lines_of bytes)
unfolding lines_of
lines-first bytes = parts-first is_newline bytes

pub lines-from : (k : ℕ) (bytes : List ℕ) → k ≤ position_or_len is_newline bytes → lines_of (drop k bytes) ≡ drop k (first-line bytes) ∷ others (lines_of bytes)
unfolding lines_of
lines-from k bytes le = parts-from is_newline k bytes le

-- the first token of a line that begins with one
token-first : (place line k : ℕ) (text : List ℕ) → k ≡ position_or_len is_blank text → 0 < k
    → tokens_on (at place line text) ≡ record { start = place; end = place + k; line = line } ∷ tokens_on (at (place + k) line (drop k text))
unfolding tokens_on
token-first place line k text is some =
    let le : k ≤ length text = rw is (prefix_len-le-length (λ b. not (is_blank b)) text) in
    let n : length (take k text) ≡ k = length-take-le k text le in
    let whole : parts is_blank text ≡ take k text ∷ others (parts is_blank text) = rw (← is) at (parts-first is_blank text) in
    let rest : parts is_blank (drop k text) ≡ drop k (take k text) ∷ others (parts is_blank text) = rw (← is) at (parts-from is_blank k text (omega arith)) in
    let none : drop k (take k text) ≡ [] = drop_all k (take k text) (omega arith) in
    let zero-is : place + k + 0 + 1 ≡ place + k + 1 = omega arith in
    let t : is_some_bytes (take k text) ≡ true = lt-ltb 0 (length (take k text)) (omega arith) in
    rw (whole, rest, none, t, n, zero-is) refl

-- a line that begins with a byte that is no blank and not `$` is no header line
no-header : (text : List ℕ) → is_blank (get_or text 0 0) ≡ false → eqb (get_or text 0 0) 36 ≡ false → is_header text ≡ false
no-header [] blank other = refl
no-header (b ∷ text) blank other = rw blank other

-- the items of a line of which a token is left
pub first-words : (indent : Bool) (place line : ℕ) (text : List ℕ) → is_blank (get_or text 0 0) ≡ false → (indent && eqb (get_or text 0 0) 36) ≡ false
    → cond indent (items_on (at place line text)) (words_on (at place line text)) ≡ words_on (at place line text)
unfolding items_on
first-words false place line text blank other = refl
first-words true place line text blank other = cond-false (is_header text) (Header (name_of (at place line text)) ∷ []) (words_on (at place line text)) (no-header text blank other)

pub over-token : (indent : Bool) (place line k : ℕ) (bytes : List ℕ) → k ≡ position_or_len is_gap bytes → 0 < k → (indent && eqb (get_or bytes 0 0) 36) ≡ false
    → left indent place line bytes ≡ Word (record { start = place; end = place + k; line = line }) ∷ left false (place + k) line (drop k bytes)
unfolding items_of items_on
over-token indent place line k bytes is some other =
    let m : ℕ = position_or_len is_newline bytes in
    let text : List ℕ = first-line bytes in
    let run : k ≡ position_or_len is_blank text = is ∙ gap-in-line bytes in
    let n : length text ≡ m = length-take-le m bytes (prefix_len-le-length (λ b. not (is_newline b)) bytes) in
    let le : k ≤ length text = rw (← run) at (prefix_len-le-length (λ b. not (is_blank b)) text) in
    let d : length (drop k text) ≡ length text - k = length-drop k text in
    let lines : lines_of (drop k bytes) ≡ drop k text ∷ others (lines_of bytes) = lines-from k bytes (omega arith) in
    let next : place + k + length (drop k text) + 1 ≡ place + length text + 1 = omega arith in
    let words : words_on (at place line text) ≡ Word (record { start = place; end = place + k; line = line }) ∷ words_on (at (place + k) line (drop k text)) = ap (map Word) (token-first place line k text run some) in
    let blank : is_blank (get_or text 0 0) ≡ false = fails_before_first is_blank text 0 0 (omega (arith, run)) in
    let same : get_or text 0 0 ≡ get_or bytes 0 0 = get_or-take m bytes 0 0 (omega arith) in
    let first : cond indent (items_on (at place line text)) (words_on (at place line text)) ≡ words_on (at place line text) = first-words indent place line text blank (rw (← same) at other) in
    rw (lines-first bytes, lines, next) (ap (λ (front : List Item). front ++ flat_map items_on (lines_at (place + length text + 1) (line + 1) (others (lines_of bytes)))) (first ∙ words))

-- ---- a header line

header-items : (place line : ℕ) (text : List ℕ) → is_header text ≡ true → items_on (at place line text) ≡ Header (name_of (at place line text)) ∷ []
unfolding items_on
header-items place line text e = cond-true (is_header text) (Header (name_of (at place line text)) ∷ []) (words_on (at place line text)) e

pub dollar-first : (bytes : List ℕ) → get_or bytes 0 0 ≡ 36 → get_or (first-line bytes) 0 0 ≡ 36
dollar-first [] e = absurd (omega (arith, e))
dollar-first (x ∷ xs) e =
    let n : ℕ = position_or_len is_newline xs in
    let one : 1 + n ≡ suc n = omega arith in
    rw (e, one) refl

pub front-none : (text : List ℕ) (b : ℕ) → get_or text 0 0 ≡ b → is_blank b ≡ false → front text ≡ 0
front-none [] b e is = refl
front-none (x ∷ xs) b e is = rw (e, is) refl

-- the name on a header line that begins with `$`
abbrev pub name-at : ℕ → ℕ → List ℕ → Token
name-at place line bytes = record { start = place + 1; end = place + back (first-line bytes); line = line }

dollar-items : (place line : ℕ) (bytes : List ℕ) → get_or bytes 0 0 ≡ 36 → items_on (at place line (first-line bytes)) ≡ Header (name-at place line bytes) ∷ []
unfolding name_of
dollar-items place line bytes dollar =
    let text : List ℕ = first-line bytes in
    let first : get_or text 0 0 ≡ 36 = dollar-first bytes dollar in
    let f : front text ≡ 0 = front-none text 36 first refl in
    let header : is_header text ≡ true = rw (f, first) refl in
    let start : place + 0 + 1 ≡ place + 1 = omega arith in
    header-items place line text header ∙ rw (f, start) refl

others-newline : (m : ℕ) (bytes : List ℕ) → m ≡ position_or_len is_newline bytes → m < length bytes → others (lines_of bytes) ≡ lines_of (drop (m + 1) bytes)
unfolding lines_of
others-newline m bytes is lt =
    let e : lines_of (drop m bytes) ≡ drop m (first-line bytes) ∷ others (lines_of bytes) = lines-from m bytes (omega (arith, is)) in
    let p : position_or_len is_newline bytes < length bytes = rw is at lt in
    let b : is_newline (get_or bytes m 0) ≡ true = rw (← is) at (passes_at_first is_newline bytes 0 p) in
    let f : lines_of (drop m bytes) ≡ [] ∷ lines_of (drop (m + 1) bytes) = rw (drop_more bytes m 0 lt, b) refl in
    ap others (sym e ∙ f)

others-end : (bytes : List ℕ) → length bytes ≤ position_or_len is_newline bytes → others (lines_of bytes) ≡ []
unfolding lines_of
others-end bytes le =
    let e : lines_of (drop (position_or_len is_newline bytes) bytes) ≡ drop (position_or_len is_newline bytes) (first-line bytes) ∷ others (lines_of bytes) = lines-from (position_or_len is_newline bytes) bytes (omega arith) in
    let f : lines_of (drop (position_or_len is_newline bytes) bytes) ≡ [] ∷ [] = rw (drop_all (position_or_len is_newline bytes) bytes le) refl in
    ap others (sym e ∙ f)

-- an LF ends the header line
pub over-header : (place line m : ℕ) (bytes : List ℕ) → m ≡ position_or_len is_newline bytes → m < length bytes → get_or bytes 0 0 ≡ 36
    → left true place line bytes ≡ Header (name-at place line bytes) ∷ left true (place + m + 1) (line + 1) (drop (m + 1) bytes)
unfolding items_of
over-header place line m bytes is lt dollar =
    let n : length (first-line bytes) ≡ m = rw (← is) (length-take-le m bytes (omega arith)) in
    let o : others (lines_of bytes) ≡ lines_of (drop (m + 1) bytes) = others-newline m bytes is lt in
    let first : lines_of bytes ≡ first-line bytes ∷ lines_of (drop (m + 1) bytes) = lines-first bytes ∙ ap (λ ls. first-line bytes ∷ ls) o in
    let a : left true place line bytes ≡ items_on (at place line (first-line bytes)) ++ flat_map items_on (lines_at (place + length (first-line bytes) + 1) (line + 1) (lines_of (drop (m + 1) bytes))) =
    ap (λ ls. items_of true (lines_at place line ls)) first in
    let b : flat_map items_on (lines_at (place + length (first-line bytes) + 1) (line + 1) (lines_of (drop (m + 1) bytes))) ≡ left true (place + m + 1) (line + 1) (drop (m + 1) bytes) =
    ap (λ (j : ℕ). flat_map items_on (lines_at (place + j + 1) (line + 1) (lines_of (drop (m + 1) bytes)))) n ∙ sym (whole-lines (lines_at (place + m + 1) (line + 1) (lines_of (drop (m + 1) bytes)))) in
    a ∙ rw (dollar-items place line bytes dollar, b) refl

-- the header line is the last line, and no LF ends it
pub over-last-header : (place line : ℕ) (bytes : List ℕ) → length bytes ≤ position_or_len is_newline bytes → get_or bytes 0 0 ≡ 36 → left true place line bytes ≡ Header (name-at place line bytes) ∷ []
unfolding items_of
over-last-header place line bytes le dollar =
    let first : lines_of bytes ≡ first-line bytes ∷ [] = lines-first bytes ∙ ap (λ ls. first-line bytes ∷ ls) (others-end bytes le) in
    let a : left true place line bytes ≡ items_on (at place line (first-line bytes)) ++ [] = ap (λ ls. items_of true (lines_at place line ls)) first in
    a ∙ rw (dollar-items place line bytes dollar) refl

-- nothing is left at the end
pub at-end : (indent : Bool) (place line : ℕ) → left indent place line [] ≡ []
unfolding items_of lines_of
at-end indent place line = rw (no-items indent place line) refl
