-- A cursor that moves, and what stands ahead of it.
use Rattle.std.proofs.Common.{◌≡◌, ℕ, zero, suc, ◌+◌, ◌-◌, ◌<◌, ◌≤◌, Bool, true, false, not, cond, eqb, ltb, None, Err, ◌&&◌, ◌||◌, List, [], ◌∷◌, length, take, drop, get_or, reverse, refl, sym, ap, ◌∙◌, inl, inr, arith}
use Rattle.std.specs.Prelude.{take_while}
use Rattle.std.specs.List.{list_all, position_or_len}
use Rattle.std.proofs.lemmas.Bool.{eqb-true, ltb-true, ltb-false, cases_lt}
use Rattle.std.proofs.lemmas.List.Folds.{length-prefix_len}
use Rattle.std.proofs.lemmas.List.{length-take, length-drop, drop_all, drop-drop, drop_more, take_more, get_or-drop, reverse-append}
use Rattle.std.proofs.lemmas.List.Sums.{count_by_more_yes, count_by_more_no, count_by-le-length, take_while-cons, prefix_len-le-length, prefix_len-drop_yes, fails_before_first, passes_at_first}
use Rattle.input_defs.specs.line_defs.Rows.{is_blank, is_newline}
use Rattle.input_defs.specs.scan_defs.Lines.{line_number, lines_from, is_indent, rest_of_line, line_end, place_after_line, front, back}
use Rattle.input_defs.specs.scan_defs.Items.{Item, Header, Word, ahead}
use Rattle.input_defs.specs.scan_defs.Quotes.{quoted_in}
use Rattle.input_defs.specs.scan_defs.Steps.{line_ahead, next_token, place_after_token, ahead_after_token}
use Rattle.scan.specs.declared.cursor.Cursor.{Cursor}
use Rattle.scan.specs.Cursors.{is_gap, spot, IsAt, IsWithin, header_name}
use Rattle.scan.proofs.Ahead.{left, over-newline, over-blank, over-token, over-header, over-last-header, at-end, dollar-first, front-none}
use Rattle.scan.proofs.Runs.{back-pos, and-none}

-- ---- lines and indents, one place on

pub number-newline : (bytes : List ℕ) (p : ℕ) → p < length bytes → is_newline (get_or bytes p 0) ≡ true → line_number bytes (p + 1) ≡ line_number bytes p + 1
unfolding line_number
number-newline bytes p lt is = let e = count_by_more_yes is_newline bytes p 0 lt is in omega (arith, e)

pub number-other : (bytes : List ℕ) (p : ℕ) → p < length bytes → is_newline (get_or bytes p 0) ≡ false → line_number bytes (p + 1) ≡ line_number bytes p
unfolding line_number
number-other bytes p lt is = let e = count_by_more_no is_newline bytes p 0 lt is in omega (arith, e)

all-cond : (b : Bool) (x : ℕ) (xs : List ℕ) → list_all is_blank (cond (not b) (x ∷ xs) []) ≡ cond b true (is_blank x && list_all is_blank xs)
all-cond true x xs = refl
all-cond false x xs = refl

indent-step : (bytes : List ℕ) (p : ℕ) → p < length bytes → is_indent bytes (p + 1) ≡ cond (is_newline (get_or bytes p 0)) true (is_blank (get_or bytes p 0) && is_indent bytes p)
unfolding is_indent
indent-step bytes p lt =
    let b : ℕ = get_or bytes p 0 in
    let r : reverse (take (p + 1) bytes) ≡ b ∷ reverse (take p bytes) = ap (λ (xs : List ℕ). reverse xs) (take_more bytes p 0 lt) ∙ reverse-append (take p bytes) (b ∷ []) in
    let t : take_while (λ x. not (is_newline x)) (b ∷ reverse (take p bytes)) ≡ cond (not (is_newline b)) (b ∷ take_while (λ x. not (is_newline x)) (reverse (take p bytes))) [] = take_while-cons (λ x. not (is_newline x)) b (reverse (take p bytes)) in
    ap (λ (xs : List ℕ). list_all is_blank (take_while (λ x. not (is_newline x)) xs)) r ∙ (ap (list_all is_blank) t ∙ all-cond (is_newline b) b (take_while (λ x. not (is_newline x)) (reverse (take p bytes))))

indent-newline : (bytes : List ℕ) (p : ℕ) → p < length bytes → is_newline (get_or bytes p 0) ≡ true → is_indent bytes (p + 1) ≡ true
indent-newline bytes p lt is = indent-step bytes p lt ∙ rw is refl

indent-blank : (bytes : List ℕ) (p : ℕ) → p < length bytes → is_newline (get_or bytes p 0) ≡ false → is_blank (get_or bytes p 0) ≡ true → is_indent bytes (p + 1) ≡ is_indent bytes p
indent-blank bytes p lt other is = indent-step bytes p lt ∙ rw (other, is) refl

indent-ink : (bytes : List ℕ) (p : ℕ) → p < length bytes → is_newline (get_or bytes p 0) ≡ false → is_blank (get_or bytes p 0) ≡ false → is_indent bytes (p + 1) ≡ false
indent-ink bytes p lt other is = indent-step bytes p lt ∙ rw (other, is) refl

indent-kept : (bytes : List ℕ) (p : ℕ) → p < length bytes → is_newline (get_or bytes p 0) ≡ false → is_indent bytes p ≡ false → is_indent bytes (p + 1) ≡ false
indent-kept bytes p lt other e = indent-step bytes p lt ∙ rw (other, e) (and-none (is_blank (get_or bytes p 0)))

-- ---- over several places of a line

pub number-run : (bytes : List ℕ) (p k : ℕ) → p + k ≤ length bytes → ((j : ℕ) → j < k → is_newline (get_or bytes (p + j) 0) ≡ false) → line_number bytes (p + k) ≡ line_number bytes p
number-run bytes p zero le h = let e : p + 0 ≡ p = omega arith in ap (line_number bytes) e
number-run bytes p (suc k) le h =
    let e : p + suc k ≡ p + k + 1 = omega arith in
    ap (line_number bytes) e ∙ (number-other bytes (p + k) (omega arith) (h k (omega arith)) ∙ number-run bytes p k (omega arith) (λ j lt. h j (omega arith)))

indent-run : (bytes : List ℕ) (p k : ℕ) → p + k + 1 ≤ length bytes → ((j : ℕ) → j < k + 1 → is_newline (get_or bytes (p + j) 0) ≡ false) → is_blank (get_or bytes p 0) ≡ false → is_indent bytes (p + k + 1) ≡ false
indent-run bytes p zero le h ink =
    let e : p + 0 ≡ p = omega arith in
    let o : is_newline (get_or bytes p 0) ≡ false = rw e at (h 0 (omega arith)) in
    rw e (indent-ink bytes p (omega arith) o ink)
indent-run bytes p (suc k) le h ink =
    let e : p + suc k ≡ p + k + 1 = omega arith in
    rw e (indent-kept bytes (p + k + 1) (omega arith) (rw e at (h (suc k) (omega arith))) (indent-run bytes p k (omega arith) (λ j lt. h j (omega arith)) ink))

-- ---- the cursor

pub at-newline : (bytes : List ℕ) (c : Cursor) → IsAt bytes c → c.place < length bytes → is_newline (get_or bytes c.place 0) ≡ true → IsAt bytes (record { place = c.place + 1; line = c.line + 1; is_indent = true })
at-newline bytes c at lt is = record {
  inside = omega arith;
  line = ap (λ n. n + 1) at.line ∙ sym (number-newline bytes c.place lt is);
  indent = sym (indent-newline bytes c.place lt is);
}

pub at-blank : (bytes : List ℕ) (c : Cursor) → IsAt bytes c → c.place < length bytes → is_newline (get_or bytes c.place 0) ≡ false → is_blank (get_or bytes c.place 0) ≡ true → IsAt bytes (record { place = c.place + 1; line = c.line; is_indent = c.is_indent })
at-blank bytes c at lt other is = record {
  inside = omega arith;
  line = at.line ∙ sym (number-other bytes c.place lt other);
  indent = at.indent ∙ sym (indent-blank bytes c.place lt other is);
}

-- after bytes of one line, the first of which is no blank
pub at-run : (bytes : List ℕ) (c : Cursor) (end : ℕ) → IsAt bytes c → c.place < end → end ≤ length bytes → ((j : ℕ) → c.place + j < end → is_newline (get_or bytes (c.place + j) 0) ≡ false) → is_blank (get_or bytes c.place 0) ≡ false
    → IsAt bytes (record { place = end; line = c.line; is_indent = false })
at-run bytes c end at lt le h ink =
    let k : ℕ = end - c.place - 1 in
    let e : c.place + k + 1 ≡ end = omega arith in
    let f : c.place + (k + 1) ≡ end = omega arith in
    record {
      inside = le;
      line = at.line ∙ sym (rw f at (number-run bytes c.place (k + 1) (omega arith) (λ j j-lt. h j (omega arith))));
      indent = sym (rw e at (indent-run bytes c.place k (omega arith) (λ j j-lt. h j (omega arith)) ink));
    }

-- ---- what stands ahead

pub ahead-is : (bytes : List ℕ) (p : ℕ) → ahead (spot bytes p) ≡ left (is_indent bytes p) p (line_number bytes p) (drop p bytes)
unfolding ahead lines_from
ahead-is bytes p = refl

pub ahead-newline : (bytes : List ℕ) (p : ℕ) → p < length bytes → is_newline (get_or bytes p 0) ≡ true → ahead (spot bytes (p + 1)) ≡ ahead (spot bytes p)
ahead-newline bytes p lt is =
    let a : ahead (spot bytes p) ≡ left true (p + 1) (line_number bytes p + 1) (drop (p + 1) bytes) =
    ahead-is bytes p ∙ (ap (left (is_indent bytes p) p (line_number bytes p)) (drop_more bytes p 0 lt) ∙ over-newline (is_indent bytes p) p (line_number bytes p) (get_or bytes p 0) (drop (p + 1) bytes) is) in
    ahead-is bytes (p + 1) ∙ (rw (indent-newline bytes p lt is, number-newline bytes p lt is) (sym a))

pub ahead-blank : (bytes : List ℕ) (p : ℕ) → p < length bytes → is_newline (get_or bytes p 0) ≡ false → is_blank (get_or bytes p 0) ≡ true → ahead (spot bytes (p + 1)) ≡ ahead (spot bytes p)
ahead-blank bytes p lt other is =
    let a : ahead (spot bytes p) ≡ left (is_indent bytes p) (p + 1) (line_number bytes p) (drop (p + 1) bytes) =
    ahead-is bytes p ∙ (ap (left (is_indent bytes p) p (line_number bytes p)) (drop_more bytes p 0 lt) ∙ over-blank (is_indent bytes p) p (line_number bytes p) (get_or bytes p 0) (drop (p + 1) bytes) other is) in
    ahead-is bytes (p + 1) ∙ (rw (indent-blank bytes p lt other is, number-other bytes p lt other) (sym a))

pub number-le : (bytes : List ℕ) (p : ℕ) → line_number bytes p ≤ length bytes + 1
unfolding line_number
number-le bytes p =
    let a = count_by-le-length is_newline (take p bytes) in
    let b = length-take p bytes in
    omega (arith, a, b)

-- ---- a token

pub record OverToken (bytes : List ℕ) (c : Cursor) (end : ℕ) : Type 0 where
  pub some : c.place < end
  pub at : IsAt bytes (record { place = end; line = c.line; is_indent = false })
  pub is : ahead (spot bytes c.place) ≡ Word (record { start = c.place; end = end; line = c.line }) ∷ ahead (spot bytes end)

pub no-gap : (x y : Bool) → (x || y) ≡ false → (x ≡ false) × (y ≡ false)
no-gap true y e = absurd cc
no-gap false y e = (refl, e)

pub run-pos : (test : ℕ → Bool) (bytes : List ℕ) (p : ℕ) → p < length bytes → test (get_or bytes p 0) ≡ false → 0 < position_or_len test (drop p bytes)
run-pos test bytes p lt e = let d = prefix_len-drop_yes (λ b. not (test b)) bytes p 0 lt (rw e refl) in omega (arith, d)

pub run-inside : (test : ℕ → Bool) (bytes : List ℕ) (p : ℕ) → p ≤ length bytes → p + position_or_len test (drop p bytes) ≤ length bytes
run-inside test bytes p le =
    let a = prefix_len-le-length (λ b. not (test b)) (drop p bytes) in
    let b = length-drop p bytes in
    omega (arith, a, b)

run-fails : (test : ℕ → Bool) (bytes : List ℕ) (p j : ℕ) → j < position_or_len test (drop p bytes) → test (get_or bytes (p + j) 0) ≡ false
run-fails test bytes p j lt = rw get_or-drop at (fails_before_first test (drop p bytes) j 0 lt)

pub past-token : (bytes : List ℕ) (c : Cursor) (end : ℕ) → IsAt bytes c → c.place < length bytes → is_gap (get_or bytes c.place 0) ≡ false → (c.is_indent && eqb (get_or bytes c.place 0) 36) ≡ false
    → end ≡ c.place + position_or_len is_gap (drop c.place bytes) → OverToken bytes c end
past-token bytes c end at lt ink body is =
    let p : ℕ = c.place in
    let k : ℕ = position_or_len is_gap (drop p bytes) in
    let some : 0 < k = run-pos is_gap bytes p lt ink in
    let le : p + k ≤ length bytes = run-inside is_gap bytes p (omega arith) in
    let parts = no-gap (is_blank (get_or bytes p 0)) (is_newline (get_or bytes p 0)) ink in
    let after : IsAt bytes (record { place = end; line = c.line; is_indent = false }) =
    at-run bytes c end at (omega arith) (omega arith) (λ j j-lt. (no-gap (is_blank (get_or bytes (p + j) 0)) (is_newline (get_or bytes (p + j) 0)) (run-fails is_gap bytes p j (omega arith))).1) parts.0 in
    let zero-is : p + 0 ≡ p = omega arith in
    let first : get_or (drop p bytes) 0 0 ≡ get_or bytes p 0 = get_or-drop p bytes 0 0 ∙ ap (λ i. get_or bytes i 0) zero-is in
    let b : (is_indent bytes p && eqb (get_or (drop p bytes) 0 0) 36) ≡ false = rw (first, ← at.indent) body in
    let a : left (is_indent bytes p) p (line_number bytes p) (drop p bytes) ≡ Word (record { start = p; end = p + k; line = line_number bytes p }) ∷ left false (p + k) (line_number bytes p) (drop k (drop p bytes)) =
    over-token (is_indent bytes p) p (line_number bytes p) k (drop p bytes) refl some b in
    let d : drop k (drop p bytes) ≡ drop (p + k) bytes = drop-drop k p bytes in
    let e : ahead (spot bytes (p + k)) ≡ left false (p + k) (line_number bytes p) (drop (p + k) bytes) =
    ahead-is bytes (p + k) ∙ rw (rw is at (sym after.indent), rw (is, at.line) at (sym after.line)) refl in
    record {
      some = omega arith;
      at = after;
      is = ahead-is bytes p ∙ (a ∙ rw (d, is, at.line) (ap (λ items. Word (record { start = p; end = p + k; line = line_number bytes p }) ∷ items) (sym e)));
    }

-- ---- the beginning and the end

pub at-start : (bytes : List ℕ) → IsAt bytes (record { place = 0; line = 1; is_indent = true })
unfolding line_number is_indent
at-start bytes = record { inside = omega arith; line = refl; indent = refl }

pub ahead-end : (bytes : List ℕ) (p : ℕ) → length bytes ≤ p → ahead (spot bytes p) ≡ []
ahead-end bytes p le = ahead-is bytes p ∙ (ap (left (is_indent bytes p) p (line_number bytes p)) (drop_all p bytes le) ∙ at-end (is_indent bytes p) p (line_number bytes p))

-- ---- a header line

pub record OverHeader (bytes : List ℕ) (c : Cursor) (after : Cursor) : Type 0 where
  pub at : IsAt bytes after
  pub stands : after.place ≡ place_after_line bytes (c.place + 1)
  pub is : ahead (spot bytes c.place) ≡ Header (header_name bytes c) ∷ ahead (spot bytes after.place)

pub both : (x y : Bool) → (x && y) ≡ true → (x ≡ true) × (y ≡ true)
both true y e = (refl, e)
both false y e = absurd cc

pub line_end-is : (bytes : List ℕ) (p : ℕ) → line_end bytes p ≡ p + position_or_len is_newline (drop p bytes)
unfolding line_end
line_end-is bytes p = let e = length-prefix_len (λ b. not (is_newline b)) (drop p bytes) in omega (arith, e)

-- one byte on in the same line its end is the same
pub line_end-more : (bytes : List ℕ) (p : ℕ) → p < length bytes → is_newline (get_or bytes p 0) ≡ false → line_end bytes (p + 1) ≡ line_end bytes p
line_end-more bytes p lt e =
    let d = prefix_len-drop_yes (λ b. not (is_newline b)) bytes p 0 lt (rw e refl) in
    let a = line_end-is bytes p in
    let b = line_end-is bytes (p + 1) in
    omega (arith, a, b, d)

-- no byte before the end of a line is an LF
pub in-line : (bytes : List ℕ) (p end j : ℕ) → end ≡ line_end bytes p → p + j < end → is_newline (get_or bytes (p + j) 0) ≡ false
in-line bytes p end j is lt = let a = line_end-is bytes p in run-fails is_newline bytes p j (omega arith)

pub first-left : (bytes : List ℕ) (p b : ℕ) → get_or bytes p 0 ≡ b → get_or (drop p bytes) 0 0 ≡ b
first-left bytes p b e = let zero-is : p + 0 ≡ p = omega arith in get_or-drop p bytes 0 0 ∙ (ap (λ i. get_or bytes i 0) zero-is ∙ e)

pub past-header-newline : (bytes : List ℕ) (c : Cursor) (end : ℕ) → IsAt bytes c → c.place < length bytes → (c.is_indent && eqb (get_or bytes c.place 0) 36) ≡ true → end ≡ line_end bytes c.place → end < length bytes
    → OverHeader bytes c (record { place = end + 1; line = c.line + 1; is_indent = true })
unfolding place_after_line
past-header-newline bytes c end at lt dollar is more =
    let p : ℕ = c.place in
    let m : ℕ = position_or_len is_newline (drop p bytes) in
    let parts = both c.is_indent (eqb (get_or bytes p 0) 36) dollar in
    let b : get_or bytes p 0 ≡ 36 = eqb-true (get_or bytes p 0) 36 parts.1 in
    let e : end ≡ p + m = is ∙ line_end-is bytes p in
    let d : length (drop p bytes) ≡ length bytes - p = length-drop p bytes in
    let short : m < length (drop p bytes) = omega arith in
    let lf : is_newline (get_or bytes (p + m) 0) ≡ true = rw get_or-drop at (passes_at_first is_newline (drop p bytes) 0 short) in
    let same : line_number bytes (p + m) ≡ line_number bytes p = number-run bytes p m (omega arith) (λ j j-lt. run-fails is_newline bytes p j j-lt) in
    let after : IsAt bytes (record { place = end + 1; line = c.line + 1; is_indent = true }) = record {
      inside = omega arith;
      line = rw e (ap (λ n. n + 1) (at.line ∙ sym same) ∙ sym (number-newline bytes (p + m) (omega arith) lf));
      indent = rw e (sym (indent-newline bytes (p + m) (omega arith) lf));
    } in
    let a : left true p c.line (drop p bytes) ≡ Header (header_name bytes c) ∷ left true (p + m + 1) (c.line + 1) (drop (m + 1) (drop p bytes)) = over-header p c.line m (drop p bytes) refl short (first-left bytes p 36 b) in
    let r : drop (m + 1) (drop p bytes) ≡ drop (p + (m + 1)) bytes = drop-drop (m + 1) p bytes in
    let q : p + (m + 1) ≡ p + m + 1 = omega arith in
    let t : ahead (spot bytes (p + m + 1)) ≡ left true (p + m + 1) (c.line + 1) (drop (p + m + 1) bytes) =
    ahead-is bytes (p + m + 1) ∙ rw (rw e at (sym after.indent), rw e at (sym after.line)) refl in
    let s : line_end bytes (p + 1) ≡ line_end bytes p = line_end-more bytes p lt (rw b refl) in
    record {
      at = after;
      stands = omega (arith, s);
      is =
          let f : left (is_indent bytes p) p (line_number bytes p) (drop p bytes) ≡ left true p c.line (drop p bytes) = rw (sym at.indent ∙ parts.0, sym at.line) refl in
          let g : left true (p + m + 1) (c.line + 1) (drop (m + 1) (drop p bytes)) ≡ ahead (spot bytes (end + 1)) = rw (e, r, q) (sym t) in
          ahead-is bytes p ∙ (f ∙ (a ∙ ap (λ (items : List Item). Header (header_name bytes c) ∷ items) g));
    }

pub past-header-last : (bytes : List ℕ) (c : Cursor) (end : ℕ) → IsAt bytes c → c.place < length bytes → (c.is_indent && eqb (get_or bytes c.place 0) 36) ≡ true → end ≡ line_end bytes c.place → length bytes ≤ end
    → OverHeader bytes c (record { place = end; line = c.line; is_indent = false })
unfolding place_after_line
past-header-last bytes c end at lt dollar is last =
    let p : ℕ = c.place in
    let m : ℕ = position_or_len is_newline (drop p bytes) in
    let parts = both c.is_indent (eqb (get_or bytes p 0) 36) dollar in
    let b : get_or bytes p 0 ≡ 36 = eqb-true (get_or bytes p 0) 36 parts.1 in
    let e : end ≡ p + m = is ∙ line_end-is bytes p in
    let d : length (drop p bytes) ≡ length bytes - p = length-drop p bytes in
    let inside : p + m ≤ length bytes = run-inside is_newline bytes p (omega arith) in
    let after : IsAt bytes (record { place = end; line = c.line; is_indent = false }) =
    at-run bytes c end at (omega arith) (omega arith) (λ j j-lt. in-line bytes p end j is j-lt) (rw b refl) in
    let a : left true p c.line (drop p bytes) ≡ Header (header_name bytes c) ∷ [] = over-last-header p c.line (drop p bytes) (omega arith) (first-left bytes p 36 b) in
    let s : line_end bytes (p + 1) ≡ line_end bytes p = line_end-more bytes p lt (rw b refl) in
    record {
      at = after;
      stands = omega (arith, s);
      is = ahead-is bytes p ∙ (rw (sym at.indent ∙ parts.0, sym at.line) a ∙ ap (λ items. Header (header_name bytes c) ∷ items) (sym (ahead-end bytes end last)));
    }

-- ---- where the body has ended

pub record Ended (bytes : List ℕ) (c : Cursor) : Type 0 where
  pub token : next_token (ahead (spot bytes c.place)) ≡ None
  pub stands : (p : ℕ) → place_after_token (spot bytes p) (ahead (spot bytes c.place)) ≡ c.place
  pub rest : ahead_after_token (ahead (spot bytes c.place)) ≡ ahead (spot bytes c.place)
  pub quoted : quoted_in bytes (ahead (spot bytes c.place)) ≡ Err c.line
  pub line : line_number bytes c.place ≡ line_ahead bytes (ahead (spot bytes c.place))

-- a header line is ahead
pub header-ahead : (bytes : List ℕ) (c : Cursor) → IsAt bytes c → c.place < length bytes → (c.is_indent && eqb (get_or bytes c.place 0) 36) ≡ true
    → (after : Cursor) × (ahead (spot bytes c.place) ≡ Header (header_name bytes c) ∷ ahead (spot bytes after.place))
header-ahead bytes c at lt dollar = elim (cases_lt (line_end bytes c.place) (length bytes)) [
  | inl more ↦ (record { place = line_end bytes c.place + 1; line = c.line + 1; is_indent = true }, (past-header-newline bytes c (line_end bytes c.place) at lt dollar refl more).is)
  | inr last ↦ (record { place = line_end bytes c.place; line = c.line; is_indent = false }, (past-header-last bytes c (line_end bytes c.place) at lt dollar refl last).is)
]

ended-header : (bytes : List ℕ) (c : Cursor) (items : List Item) → IsAt bytes c → ahead (spot bytes c.place) ≡ Header (header_name bytes c) ∷ items → Ended bytes c
unfolding quoted_in
ended-header bytes c items at e =
    let one : c.place + 1 - 1 ≡ c.place = omega arith in
    record { token = rw e refl; stands = λ p. rw e one; rest = rw e refl; quoted = rw e refl; line = rw e (sym at.line) }

pub ended-last : (bytes : List ℕ) (c : Cursor) → IsAt bytes c → length bytes ≤ c.place → Ended bytes c
unfolding quoted_in
ended-last bytes c at le =
    let e = ahead-end bytes c.place le in
    let n : length bytes ≡ c.place = let i = at.inside in omega arith in
    record { token = rw e refl; stands = λ p. rw e n; rest = rw e refl; quoted = rw (e, n) (ap Err (sym at.line)); line = rw (e, n) refl }

ended-at : (b h : Bool) (bytes : List ℕ) (c : Cursor) → IsAt bytes c → ltb c.place (length bytes) ≡ b → (c.is_indent && eqb (get_or bytes c.place 0) 36) ≡ h → (b && not h) ≡ false → Ended bytes c
ended-at false h bytes c at e f none = ended-last bytes c at (ltb-false c.place (length bytes) e)
ended-at true true bytes c at e f none = let a = header-ahead bytes c at (ltb-true c.place (length bytes) e) f in ended-header bytes c (ahead (spot bytes a.0.place)) at a.1
ended-at true false bytes c at e f none = absurd cc

pub ended : (bytes : List ℕ) (c : Cursor) → IsAt bytes c → (ltb c.place (length bytes) && not (c.is_indent && eqb (get_or bytes c.place 0) 36)) ≡ false → Ended bytes c
ended bytes c at none = ended-at (ltb c.place (length bytes)) (c.is_indent && eqb (get_or bytes c.place 0) 36) bytes c at refl refl none

-- ---- what is left of a line

pub line-slice : (bytes : List ℕ) (p end : ℕ) → end ≡ line_end bytes p → take (end - p) (drop p bytes) ≡ rest_of_line bytes p
line-slice bytes p end is =
    let a = line_end-is bytes p in
    let k : end - p ≡ position_or_len is_newline (drop p bytes) = omega arith in
    ap (λ n. take n (drop p bytes)) k

-- the name ends after its `$` and within the bytes
pub name-within : (bytes : List ℕ) (c : Cursor) → IsAt bytes c → c.place < length bytes → (c.is_indent && eqb (get_or bytes c.place 0) 36) ≡ true → IsWithin bytes (header_name bytes c)
name-within bytes c at lt dollar =
    let parts = both c.is_indent (eqb (get_or bytes c.place 0) 36) dollar in
    let b : get_or bytes c.place 0 ≡ 36 = eqb-true (get_or bytes c.place 0) 36 parts.1 in
    let first : get_or (rest_of_line bytes c.place) 0 0 ≡ 36 = dollar-first (drop c.place bytes) (first-left bytes c.place 36 b) in
    let f : front (rest_of_line bytes c.place) ≡ 0 = front-none (rest_of_line bytes c.place) 36 first refl in
    let some : 0 < back (rest_of_line bytes c.place) = back-pos (rest_of_line bytes c.place) (rw f first) in
    let n = length-prefix_len (λ x. not (is_newline x)) (drop c.place bytes) in
    let i = run-inside is_newline bytes c.place (omega arith) in
    record { ordered = omega arith; inside = omega (arith, n, i) }
