-- Where a quoted text is looked for, over gaps.
use Rattle.std.proofs.Common.{◌≡◌, ℕ, suc, ◌+◌, ◌-◌, ◌<◌, ◌≤◌, Bool, true, false, not, cond, eqb, leb, ◌&&◌, List, [], ◌∷◌, ◌++◌, length, map, take, drop, get_or, Some, None, Result, Ok, Err, refl, sym, ap, ◌∙◌, add-one, inl, inr, arith}
use Rattle.std.specs.Prelude.{find, flat_map}
use Rattle.std.specs.List.{list_all, position_or_len}
use Rattle.std.proofs.lemmas.Bool.{cases_lt, lt-leb, le-leb, leb-true, eqb-true, and_parts, cond-false, eq-eqb, ne_eqb}
use Rattle.std.proofs.lemmas.List.{drop_more, drop_all, drop-drop, get_or-take}
use Rattle.std.proofs.lemmas.List.Folds.{length-prefix_len, list_all_at}
use Rattle.input_defs.specs.line_defs.Rows.{is_blank, is_newline, is_some_bytes, onto_first, parts, lines_of}
use Rattle.input_defs.specs.declared.scan_defs.Token.{Token}
use Rattle.input_defs.specs.scan_defs.Lines.{Line, lines_at, line_number, lines_from, is_indent, rest_of_line, line_end, front, back}
use Rattle.input_defs.specs.scan_defs.Items.{Item, Header, Word, is_header, name_of, tokens_at, tokens_on, words_on, items_on, items_of, ahead}
use Rattle.input_defs.specs.scan_defs.Steps.{after_items_on}
use Rattle.input_defs.specs.scan_defs.Quotes.{is_quoted, quoted_on, or_line, quoted_where, quoted_from, quoted_in}
use Rattle.scan.specs.Cursors.{is_gap, spot, IsAt}
use Rattle.scan.specs.declared.cursor.Cursor.{Cursor}
use Rattle.scan.proofs.Ahead.{left, at, front-blank, first-line, lines-first, lines-from, no-items, first-words, front-none}
use Rattle.scan.proofs.Runs.{others, parts-first, back-cons, back-some, and-none, cond-none, cond-some}
use Rattle.scan.proofs.Places.{number-newline, number-other, both, no-gap, run-pos, first-left, run-inside, at-run, in-line, line-slice, line_end-is, line_end-more, ahead-is, past-token, header-ahead, ended-last}

abbrev inked : Line → Bool
inked line = not (list_all is_blank line.text)

-- what is found, where this is left of the file, from this place and line on
abbrev pub look : ℕ → ℕ → ℕ → List ℕ → Result Token ℕ
look last place line bytes = quoted_where last (find inked (lines_at place line (lines_of bytes)))

pub quoted-is : (bytes : List ℕ) (p : ℕ) → quoted_from (spot bytes p) ≡ look (line_number bytes (length bytes)) p (line_number bytes p) (drop p bytes)
unfolding quoted_from lines_from
quoted-is bytes p = refl

look-newline : (last place line b : ℕ) (bytes : List ℕ) → is_newline b ≡ true → look last place line (b ∷ bytes) ≡ look last (place + 1) (line + 1) bytes
unfolding lines_of
look-newline last place line b bytes is = let zero-is : place + 0 + 1 ≡ place + 1 = omega arith in rw (is, zero-is) refl

get-cons : (b i : ℕ) (text : List ℕ) → get_or (b ∷ text) (i + 1) 0 ≡ get_or text i 0
get-cons b i text = rw add-one refl

shift-le : (a b : ℕ) → leb (a + 1 + 2) (b + 1) ≡ leb (a + 2) b
shift-le a b = elim (cases_lt b (a + 2)) [
  | inl lt ↦ lt-leb (a + 1 + 2) (b + 1) (omega arith) ∙ sym (lt-leb (a + 2) b lt)
  | inr ge ↦ le-leb (a + 1 + 2) (b + 1) (omega arith) ∙ sym (le-leb (a + 2) b ge)
]

-- a text that begins at f and ends at k is quoted
abbrev quoted-from : List ℕ → ℕ → ℕ → Bool
quoted-from text f k = leb (f + 2) k && (eqb (get_or text f 0) 34 && eqb (get_or text (k - 1) 0) 34)

quoted-cons : (b f k : ℕ) (text : List ℕ) → 0 < k → quoted-from (b ∷ text) (f + 1) (k + 1) ≡ quoted-from text f k
quoted-cons b f k text some =
    let j : k + 1 - 1 ≡ k - 1 + 1 = omega arith in
    rw (shift-le f k, get-cons b f text, j, get-cons b (k - 1) text) refl

quoted-shift : (b : ℕ) (text : List ℕ) → is_blank b ≡ true → 0 < back text → is_quoted (b ∷ text) ≡ is_quoted text
quoted-shift b text is some =
    ap (λ (f : ℕ). quoted-from (b ∷ text) f (back (b ∷ text))) (front-blank b text is) ∙ (ap (λ (k : ℕ). quoted-from (b ∷ text) (front text + 1) k) (back-cons b text some) ∙ quoted-cons b (front text) (back text) text some)

token-shift : (place line b : ℕ) (text : List ℕ) → is_blank b ≡ true → 0 < back text → quoted_on (at place line (b ∷ text)) ≡ quoted_on (at (place + 1) line text)
unfolding quoted_on
token-shift place line b text is some =
    let s : place + front (b ∷ text) + 1 ≡ place + 1 + front text + 1 = let e = front-blank b text is in omega (arith, e) in
    let k : place + back (b ∷ text) - 1 ≡ place + 1 + back text - 1 = let e = back-cons b text some in omega (arith, e) in
    token-where (is_quoted (b ∷ text)) (is_quoted text) (place + front (b ∷ text) + 1) (place + 1 + front text + 1) (place + back (b ∷ text) - 1) (place + 1 + back text - 1) line (quoted-shift b text is some) s k
  where
    token-where : (q q' : Bool) (a a' e e' n : ℕ) → q ≡ q' → a ≡ a' → e ≡ e' → cond q (Some (let t : Token = record { start = a; end = e; line = n } in t)) None ≡ cond q' (Some (let t : Token = record { start = a'; end = e'; line = n } in t)) None
    token-where q q' a a' e e' n x y z = rw (x, y, z) refl

blank-lines : (v : Bool) (last place line b : ℕ) (text : List ℕ) (ps : List (List ℕ)) → is_blank b ≡ true → list_all is_blank text ≡ v
    → quoted_where last (find inked (lines_at place line ((b ∷ text) ∷ ps))) ≡ quoted_where last (find inked (lines_at (place + 1) line (text ∷ ps)))
blank-lines true last place line b text ps is all =
    let n : place + suc (length text) + 1 ≡ place + 1 + length text + 1 = omega arith in
    rw (is, all, n) refl
blank-lines false last place line b text ps is all =
    rw (is, all) (ap (or_line line) (token-shift place line b text is (back-some text all)))

look-onto : (last place line b : ℕ) (ps : List (List ℕ)) (first : List ℕ) → ps ≡ first ∷ others ps → is_blank b ≡ true
    → quoted_where last (find inked (lines_at place line (onto_first b ps))) ≡ quoted_where last (find inked (lines_at (place + 1) line ps))
look-onto last place line b [] first e is = absurd cc
look-onto last place line b (text ∷ ps) first e is = blank-lines (list_all is_blank text) last place line b text ps is refl

look-blank : (last place line b : ℕ) (bytes : List ℕ) → is_newline b ≡ false → is_blank b ≡ true → look last place line (b ∷ bytes) ≡ look last (place + 1) line bytes
unfolding lines_of
look-blank last place line b bytes other is = rw other (look-onto last place line b (parts is_newline bytes) (take (position_or_len is_newline bytes) bytes) (parts-first is_newline bytes) is)

pub quoted-newline : (bytes : List ℕ) (p : ℕ) → p < length bytes → is_newline (get_or bytes p 0) ≡ true → quoted_from (spot bytes (p + 1)) ≡ quoted_from (spot bytes p)
quoted-newline bytes p lt is =
    let last : ℕ = line_number bytes (length bytes) in
    let a : quoted_from (spot bytes p) ≡ look last (p + 1) (line_number bytes p + 1) (drop (p + 1) bytes) =
    quoted-is bytes p ∙ (ap (look last p (line_number bytes p)) (drop_more bytes p 0 lt) ∙ look-newline last p (line_number bytes p) (get_or bytes p 0) (drop (p + 1) bytes) is) in
    quoted-is bytes (p + 1) ∙ rw (number-newline bytes p lt is) (sym a)

pub quoted-blank : (bytes : List ℕ) (p : ℕ) → p < length bytes → is_newline (get_or bytes p 0) ≡ false → is_blank (get_or bytes p 0) ≡ true → quoted_from (spot bytes (p + 1)) ≡ quoted_from (spot bytes p)
quoted-blank bytes p lt other is =
    let last : ℕ = line_number bytes (length bytes) in
    let a : quoted_from (spot bytes p) ≡ look last (p + 1) (line_number bytes p) (drop (p + 1) bytes) =
    quoted-is bytes p ∙ (ap (look last p (line_number bytes p)) (drop_more bytes p 0 lt) ∙ look-blank last p (line_number bytes p) (get_or bytes p 0) (drop (p + 1) bytes) other is) in
    quoted-is bytes (p + 1) ∙ rw (number-other bytes p lt other) (sym a)

-- ---- where neither a blank nor an LF stands, or at the end

-- a quoted text is looked for on what is left of this line
pub record LooksHere (bytes : List ℕ) (c : Cursor) : Type 0 where
  pub front-is : front (rest_of_line bytes c.place) ≡ 0
  pub lines : quoted_from (spot bytes c.place) ≡ or_line c.line (quoted_on (at c.place c.line (rest_of_line bytes c.place)))
  pub by-items : quoted_in bytes (ahead (spot bytes c.place)) ≡ or_line c.line (quoted_on (at c.place c.line (rest_of_line bytes c.place)))

no-quote : (place line : ℕ) (text : List ℕ) → front text ≡ 0 → get_or text 0 0 ≡ 36 → quoted_on (at place line text) ≡ None
unfolding quoted_on
no-quote place line text f e =
    let q : is_quoted text ≡ false = ap (λ (k : ℕ). quoted-from text k (back text)) f ∙ rw e (and-none (leb (0 + 2) (back text))) in
    cond-false (is_quoted text) _ _ q

here-items : (h : Bool) (bytes : List ℕ) (c : Cursor) → IsAt bytes c → c.place < length bytes → is_gap (get_or bytes c.place 0) ≡ false → (c.is_indent && eqb (get_or bytes c.place 0) 36) ≡ h
    → front (rest_of_line bytes c.place) ≡ 0 → get_or (rest_of_line bytes c.place) 0 0 ≡ get_or bytes c.place 0
    → quoted_in bytes (ahead (spot bytes c.place)) ≡ or_line c.line (quoted_on (at c.place c.line (rest_of_line bytes c.place)))
unfolding quoted_in
here-items true bytes c is-at lt ink h f first =
    let b : get_or bytes c.place 0 ≡ 36 = eqb-true (get_or bytes c.place 0) 36 (both c.is_indent (eqb (get_or bytes c.place 0) 36) h).1 in
    let a = header-ahead bytes c is-at lt h in
    rw (a.1, no-quote c.place c.line (rest_of_line bytes c.place) f (first ∙ b)) refl
here-items false bytes c is-at lt ink h f first =
    let t = past-token bytes c (c.place + position_or_len is_gap (drop c.place bytes)) is-at lt ink h refl in
    rw t.is refl

here-ink : (bytes : List ℕ) (c : Cursor) → IsAt bytes c → c.place < length bytes → is_gap (get_or bytes c.place 0) ≡ false → LooksHere bytes c
here-ink bytes c is-at lt ink =
    let p : ℕ = c.place in
    let rest : List ℕ = drop p bytes in
    let m : ℕ = position_or_len is_newline rest in
    let parts = no-gap (is_blank (get_or bytes p 0)) (is_newline (get_or bytes p 0)) ink in
    let some : 0 < m = run-pos is_newline bytes p lt parts.1 in
    let first : get_or (rest_of_line bytes p) 0 0 ≡ get_or bytes p 0 = get_or-take m rest 0 0 some ∙ first-left bytes p (get_or bytes p 0) refl in
    let n : length (rest_of_line bytes p) ≡ m = length-prefix_len (λ x. not (is_newline x)) rest in
    let f : front (rest_of_line bytes p) ≡ 0 = front-none (rest_of_line bytes p) (get_or bytes p 0) first parts.0 in
    let inky : list_all is_blank (rest_of_line bytes p) ≡ false = list_all_at is_blank (rest_of_line bytes p) 0 0 (omega arith) (rw first parts.0) in
    let found : look (line_number bytes (length bytes)) p (line_number bytes p) rest ≡ or_line (line_number bytes p) (quoted_on (at p (line_number bytes p) (rest_of_line bytes p))) =
    rw (lines-first rest, inky) refl in
    record {
      front-is = f;
      lines = quoted-is bytes p ∙ (found ∙ rw (sym is-at.line) refl);
      by-items = here-items (c.is_indent && eqb (get_or bytes c.place 0) 36) bytes c is-at lt ink refl f first;
    }

look-end : (last place line : ℕ) → look last place line [] ≡ Err last
unfolding lines_of
look-end last place line = refl

quoted-end : (place line : ℕ) → quoted_on (at place line []) ≡ None
unfolding quoted_on
quoted-end place line = refl

here-end : (bytes : List ℕ) (c : Cursor) → IsAt bytes c → length bytes ≤ c.place → LooksHere bytes c
here-end bytes c is-at le =
    let p : ℕ = c.place in
    let none : drop p bytes ≡ [] = drop_all p bytes le in
    let rest : rest_of_line bytes p ≡ [] = rw none refl in
    let n : length bytes ≡ p = let i = is-at.inside in omega arith in
    let q : quoted_on (at p c.line (rest_of_line bytes p)) ≡ None = ap (λ (xs : List ℕ). quoted_on (at p c.line xs)) rest ∙ quoted-end p c.line in
    record {
      front-is = rw none refl;
      lines = quoted-is bytes p ∙ (rw none (look-end (line_number bytes (length bytes)) p (line_number bytes p)) ∙ (ap Err (ap (line_number bytes) n ∙ sym is-at.line) ∙ ap (or_line c.line) (sym q)));
      by-items = (ended-last bytes c is-at le).quoted ∙ ap (or_line c.line) (sym q);
    }

pub looks-here : (bytes : List ℕ) (c : Cursor) → IsAt bytes c → (c.place < length bytes → is_gap (get_or bytes c.place 0) ≡ false) → LooksHere bytes c
looks-here bytes c is-at ink = elim (cases_lt c.place (length bytes)) [
  | inl lt ↦ here-ink bytes c is-at lt (ink lt)
  | inr le ↦ here-end bytes c is-at le
]

-- ---- what is found on a part of a line that begins without blanks

pub quoted-none : (place line : ℕ) (text : List ℕ) → None ≡ cond (is_quoted text) (Some (back text - 1)) None → or_line line (quoted_on (at place line text)) ≡ Err line
unfolding quoted_on
quoted-none place line text e = rw (cond-none (is_quoted text) (back text - 1) e) refl

-- a quoted text, whose last `"` stands there
pub record Quoted (place line last : ℕ) (text : List ℕ) : Type 0 where
  pub is : or_line line (quoted_on (at place line text)) ≡ Ok (record { start = place + 1; end = place + last; line = line })
  pub first : get_or text 0 0 ≡ 34
  pub some : 1 ≤ last
  pub inside : last < length text

pub quoted-some : (place line last : ℕ) (text : List ℕ) → front text ≡ 0 → Some last ≡ cond (is_quoted text) (Some (back text - 1)) None → Quoted place line last text
unfolding quoted_on
quoted-some place line last text f e =
    let both-are = cond-some (is_quoted text) (back text - 1) last e in
    let q : quoted-from text 0 (back text) ≡ true = ap (λ (k : ℕ). quoted-from text k (back text)) (sym f) ∙ both-are.0 in
    let fits = and_parts (leb (0 + 2) (back text)) (eqb (get_or text 0 0) 34 && eqb (get_or text (back text - 1) 0) 34) q in
    let two : 0 + 2 ≤ back text = leb-true (0 + 2) (back text) fits.0 in
    let s : place + front text + 1 ≡ place + 1 = omega (arith, f) in
    let k : place + back text - 1 ≡ place + last = let l = both-are.1 in omega arith in
    record {
      is = rw (both-are.0, s, k) refl;
      first = eqb-true (get_or text 0 0) 34 (and_parts (eqb (get_or text 0 0) 34) (eqb (get_or text (back text - 1) 0) 34) fits.1).0;
      some = let l = both-are.1 in omega arith;
      inside = let l = both-are.1 in omega arith;
    }

-- ---- the items after the tokens of a line

skip-token : (b : Bool) (n : ℕ) (t : Token) (tokens : List Token) (rest : List Item) → t.line ≡ n → after_items_on n (map Word tokens ++ rest) ≡ after_items_on n rest
    → after_items_on n (map Word (cond b (t ∷ []) [] ++ tokens) ++ rest) ≡ after_items_on n rest
skip-token true n t tokens rest e skips = rw (e, eq-eqb n n refl) skips
skip-token false n t tokens rest e skips = skips

-- the tokens of that line are skipped
skip-tokens : (place n : ℕ) (ps : List (List ℕ)) (rest : List Item) → after_items_on n (map Word (tokens_at place n ps) ++ rest) ≡ after_items_on n rest
skip-tokens place n [] rest = refl
skip-tokens place n (p ∷ ps) rest =
    let t : Token = record { start = place; end = place + length p; line = n } in
    skip-token (is_some_bytes p) n t (tokens_at (place + length p + 1) n ps) rest refl (skip-tokens (place + length p + 1) n ps rest)

skip-words : (place n : ℕ) (text : List ℕ) (rest : List Item) → after_items_on n (words_on (at place n text) ++ rest) ≡ after_items_on n rest
unfolding tokens_on
skip-words place n text rest = skip-tokens place n (parts is_blank text) rest

keep-token : (b : Bool) (n m : ℕ) (t : Token) (tokens : List Token) (rest : List Item) → n < m → t.line ≡ m → after_items_on n (map Word tokens ++ rest) ≡ map Word tokens ++ rest
    → after_items_on n (map Word (cond b (t ∷ []) [] ++ tokens) ++ rest) ≡ map Word (cond b (t ∷ []) [] ++ tokens) ++ rest
keep-token true n m t tokens rest lt e kept = rw (ne_eqb t.line n (λ q. omega (arith, e, q))) refl
keep-token false n m t tokens rest lt e kept = kept

-- the tokens of a later line are kept
keep-tokens : (n place m : ℕ) (ps : List (List ℕ)) (rest : List Item) → n < m → after_items_on n rest ≡ rest → after_items_on n (map Word (tokens_at place m ps) ++ rest) ≡ map Word (tokens_at place m ps) ++ rest
keep-tokens n place m [] rest lt kept = kept
keep-tokens n place m (p ∷ ps) rest lt kept =
    let t : Token = record { start = place; end = place + length p; line = m } in
    keep-token (is_some_bytes p) n m t (tokens_at (place + length p + 1) m ps) rest lt refl (keep-tokens n (place + length p + 1) m ps rest lt kept)

keep-line : (h : Bool) (n place m : ℕ) (text : List ℕ) (rest : List Item) → n < m → after_items_on n rest ≡ rest
    → after_items_on n (cond h (Header (name_of (at place m text)) ∷ []) (words_on (at place m text)) ++ rest) ≡ cond h (Header (name_of (at place m text)) ∷ []) (words_on (at place m text)) ++ rest
unfolding tokens_on
keep-line true n place m text rest lt kept = refl
keep-line false n place m text rest lt kept = keep-tokens n place m (parts is_blank text) rest lt kept

later-lines : (n place m : ℕ) (texts : List (List ℕ)) → n < m → after_items_on n (flat_map items_on (lines_at place m texts)) ≡ flat_map items_on (lines_at place m texts)
unfolding items_on
later-lines n place m [] lt = refl
later-lines n place m (text ∷ texts) lt =
    keep-line (is_header text) n place m text (flat_map items_on (lines_at (place + length text + 1) (m + 1) texts)) lt (later-lines n (place + length text + 1) (m + 1) texts (omega arith))

-- what stands ahead of the end of a line of which tokens are left
left-end : (indent : Bool) (place n m : ℕ) (bytes : List ℕ) → m ≡ position_or_len is_newline bytes → is_blank (get_or (first-line bytes) 0 0) ≡ false → (indent && eqb (get_or (first-line bytes) 0 0) 36) ≡ false
    → left false (place + m) n (drop m bytes) ≡ after_items_on n (left indent place n bytes)
unfolding items_of
left-end indent place n m bytes is ink other =
    let text : List ℕ = first-line bytes in
    let len : length text ≡ m = length-prefix_len (λ x. not (is_newline x)) bytes ∙ sym is in
    let X : List Item = flat_map items_on (lines_at (place + m + 1) (n + 1) (others (lines_of bytes))) in
    let none : drop m (first-line bytes) ≡ [] = drop_all m (first-line bytes) (omega arith) in
    let lines : lines_of (drop m bytes) ≡ [] ∷ others (lines_of bytes) = lines-from m bytes (omega (arith, is)) ∙ ap (λ (t : List ℕ). t ∷ others (lines_of bytes)) none in
    let zero-is : place + m + 0 + 1 ≡ place + m + 1 = omega arith in
    let a : left false (place + m) n (drop m bytes) ≡ X = rw (lines, no-items false (place + m) n, zero-is) refl in
    let words : cond indent (items_on (at place n text)) (words_on (at place n text)) ≡ words_on (at place n text) = first-words indent place n text ink other in
    let b : left indent place n bytes ≡ words_on (at place n text) ++ X = rw (lines-first bytes, len) (ap (λ (front : List Item). front ++ X) words) in
    let s : after_items_on n (words_on (at place n text) ++ X) ≡ after_items_on n X = skip-words place n text X in
    let l : after_items_on n X ≡ X = later-lines n (place + m + 1) (n + 1) (others (lines_of bytes)) (omega arith) in
    a ∙ (sym l ∙ (sym s ∙ ap (after_items_on n) (sym b)))

-- ---- a quoted text is taken over

pub record OverQuoted (bytes : List ℕ) (c : Cursor) (end : ℕ) : Type 0 where
  pub at-is : IsAt bytes (record { place = end; line = c.line; is_indent = false })
  pub stands : end ≡ line_end bytes (c.place + 1)
  pub is : ahead (spot bytes end) ≡ after_items_on c.line (ahead (spot bytes c.place))

pub past-quoted : (bytes : List ℕ) (c : Cursor) (end : ℕ) → IsAt bytes c → c.place < length bytes → is_gap (get_or bytes c.place 0) ≡ false → get_or (rest_of_line bytes c.place) 0 0 ≡ 34 → end ≡ line_end bytes c.place → OverQuoted bytes c end
past-quoted bytes c end is-at lt ink quote is =
    let p : ℕ = c.place in
    let m : ℕ = position_or_len is_newline (drop p bytes) in
    let both-are = no-gap (is_blank (get_or bytes p 0)) (is_newline (get_or bytes p 0)) ink in
    let some : 0 < m = run-pos is_newline bytes p lt both-are.1 in
    let inside : p + m ≤ length bytes = run-inside is_newline bytes p (omega arith) in
    let e : end ≡ p + m = is ∙ line_end-is bytes p in
    let after : IsAt bytes (record { place = end; line = c.line; is_indent = false }) =
    at-run bytes c end is-at (omega arith) (omega arith) (λ j j-lt. in-line bytes p end j is j-lt) both-are.0 in
    let d : drop m (drop p bytes) ≡ drop (p + m) bytes = drop-drop m p bytes in
    let a : ahead (spot bytes (p + m)) ≡ left false (p + m) c.line (drop (p + m) bytes) = ahead-is bytes (p + m) ∙ rw (rw e at (sym after.indent), rw e at (sym after.line)) refl in
    let b : left false (p + m) c.line (drop m (drop p bytes)) ≡ after_items_on c.line (left (is_indent bytes p) p c.line (drop p bytes)) =
    left-end (is_indent bytes p) p c.line m (drop p bytes) refl (rw quote refl) (rw quote (and-none (is_indent bytes p))) in
    let f : left (is_indent bytes p) p (line_number bytes p) (drop p bytes) ≡ left (is_indent bytes p) p c.line (drop p bytes) = rw (sym is-at.line) refl in
    record {
      at-is = after;
      stands = is ∙ sym (line_end-more bytes p lt both-are.1);
      is = rw (e, ahead-is bytes p, f) (a ∙ (rw (sym d) b));
    }

-- ---- the two answers

pub record NoneQuoted (bytes : List ℕ) (c : Cursor) : Type 0 where
  pub lines : quoted_from (spot bytes c.place) ≡ Err c.line
  pub by-items : quoted_in bytes (ahead (spot bytes c.place)) ≡ Err c.line

pub none-quoted : (bytes : List ℕ) (c : Cursor) (end : ℕ) → IsAt bytes c → (c.place < length bytes → is_gap (get_or bytes c.place 0) ≡ false) → end ≡ line_end bytes c.place
    → None ≡ cond (is_quoted (take (end - c.place) (drop c.place bytes))) (Some (back (take (end - c.place) (drop c.place bytes)) - 1)) None → NoneQuoted bytes c
none-quoted bytes c end is-at ink is none =
    let h = looks-here bytes c is-at ink in
    let q = quoted-none c.place c.line (rest_of_line bytes c.place) (rw (line-slice bytes c.place end is) at none) in
    record { lines = h.lines ∙ q; by-items = h.by-items ∙ q }

pub front-slice : (bytes : List ℕ) (c : Cursor) (end : ℕ) → IsAt bytes c → (c.place < length bytes → is_gap (get_or bytes c.place 0) ≡ false) → end ≡ line_end bytes c.place → front (take (end - c.place) (drop c.place bytes)) ≡ 0
front-slice bytes c end is-at ink is = rw (line-slice bytes c.place end is) (looks-here bytes c is-at ink).front-is

pub record SomeQuoted (bytes : List ℕ) (c : Cursor) (end last : ℕ) : Type 0 where
  pub lines : quoted_from (spot bytes c.place) ≡ Ok (record { start = c.place + 1; end = c.place + last; line = c.line })
  pub by-items : quoted_in bytes (ahead (spot bytes c.place)) ≡ Ok (record { start = c.place + 1; end = c.place + last; line = c.line })
  pub over : OverQuoted bytes c end
  pub some : 1 ≤ last
  pub inside : c.place + last < end

pub some-quoted : (bytes : List ℕ) (c : Cursor) (end last : ℕ) → IsAt bytes c → (c.place < length bytes → is_gap (get_or bytes c.place 0) ≡ false) → end ≡ line_end bytes c.place
    → Some last ≡ cond (is_quoted (take (end - c.place) (drop c.place bytes))) (Some (back (take (end - c.place) (drop c.place bytes)) - 1)) None → SomeQuoted bytes c end last
unfolding line_end
some-quoted bytes c end last is-at ink is some =
    let h = looks-here bytes c is-at ink in
    let q = quoted-some c.place c.line last (rest_of_line bytes c.place) h.front-is (rw (line-slice bytes c.place end is) at some) in
    let n : length (rest_of_line bytes c.place) ≡ position_or_len is_newline (drop c.place bytes) = length-prefix_len (λ x. not (is_newline x)) (drop c.place bytes) in
    let l = q.inside in
    let i = is-at.inside in
    let r = run-inside is_newline bytes c.place i in
    let lt : c.place < length bytes = omega (arith, n, l, r) in
    record {
      lines = h.lines ∙ q.is;
      by-items = h.by-items ∙ q.is;
      over = past-quoted bytes c end is-at lt (ink lt) q.first is;
      some = q.some;
      inside = omega (arith, is, l);
    }
