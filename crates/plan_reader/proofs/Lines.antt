-- Lines and tokens, taken from the front of a text.
use Rattle.std.proofs.Common.{◌≡◌, ℕ, suc, ◌+◌, ◌-◌, ◌<◌, ◌≤◌, Bool, true, false, not, cond, ltb, List, [], ◌∷◌, length, take, drop, Option, Some, None, refl, sym, ap, ◌∙◌, inl, inr, arith}
use Rattle.std.specs.List.{slice_split, onto_first as onto_first_part, position_or_len, filter}
use Rattle.std.specs.Option.{unwrap_or}
use Rattle.std.proofs.lemmas.Bool.{cases_lt, le-ltb, lt-ltb, cond-true, cond-false}
use Rattle.std.proofs.lemmas.List.{drop_more, drop_all, take_all, take_rest, length-take}
use Rattle.std.proofs.lemmas.List.Sums.{passes_at_first, fails_before_first, prefix_len-le-length}
use Rattle.std.proofs.lemmas.List.Splits.{slice_split_first, slice_split_none}
use Rattle.input_defs.specs.line_defs.Rows.{is_blank, is_newline, onto_first, parts, is_some_bytes, lines_of, tokens_of}

-- the place that `position` found, or the length
pub place_or_length : (test : ℕ → Bool) (bs : List ℕ) (found : Option ℕ) (n : ℕ) → found ≡ cond (ltb (position_or_len test bs) (length bs)) (Some (position_or_len test bs)) None → n ≡ unwrap_or found (length bs) → n ≡ position_or_len test bs
place_or_length test bs found n f u =
    elim (cases_lt (position_or_len test bs) (length bs)) [
      | inl lt ↦ u ∙ ap (λ o. unwrap_or o (length bs)) (f ∙ cond-true _ _ _ (lt-ltb _ _ lt))
      | inr le ↦ u ∙ (ap (λ o. unwrap_or o (length bs)) (f ∙ cond-false _ _ _ (le-ltb _ _ le)) ∙ omega (arith, prefix_len-le-length (λ b. not (test b)) bs))
    ]

onto_first_is : (b : ℕ) (ps : List (List ℕ)) → onto_first b ps ≡ onto_first_part b ps
onto_first_is b [] = refl
onto_first_is b (p ∷ ps) = refl

-- the parts are std's
parts_is : (test : ℕ → Bool) (bs : List ℕ) → parts test bs ≡ slice_split test bs
parts_is test [] = refl
parts_is test (b ∷ bs) = rw (parts_is test bs, onto_first_is b (slice_split test bs)) refl

-- the first part ends at the first byte that passes
pub parts_first : (test : ℕ → Bool) (bs : List ℕ) → position_or_len test bs < length bs → parts test bs ≡ take (position_or_len test bs) bs ∷ parts test (drop (position_or_len test bs + 1) bs)
parts_first test bs lt = rw (parts_is test bs, parts_is test (drop (position_or_len test bs + 1) bs)) (slice_split_first test bs 0 lt)

-- where no byte passes, all is one part
pub parts_none : (test : ℕ → Bool) (bs : List ℕ) → length bs ≤ position_or_len test bs → parts test bs ≡ bs ∷ []
parts_none test bs le = rw (parts_is test bs) (slice_split_none test bs (λ k d lt. fails_before_first test bs k d (omega arith)))

-- ---- tokens

tokens_of_blank : (b : ℕ) (bs : List ℕ) → is_blank b ≡ true → tokens_of (b ∷ bs) ≡ tokens_of bs
unfolding tokens_of
tokens_of_blank b bs e = rw e refl

-- blanks in front are no part of a token
start_from : (b : ℕ) (bs : List ℕ) (blank : Bool) → is_blank b ≡ blank → tokens_of bs ≡ tokens_of (drop (position_or_len (λ b. not (is_blank b)) bs) bs)
    → tokens_of (b ∷ bs) ≡ tokens_of (drop (cond (not (not blank)) (1 + position_or_len (λ b. not (is_blank b)) bs) 0) (b ∷ bs))
start_from b bs true e h = let k : 1 + position_or_len (λ b. not (is_blank b)) bs ≡ suc (position_or_len (λ b. not (is_blank b)) bs) = omega arith in rw k (tokens_of_blank b bs e ∙ h)
start_from b bs false e h = refl

tokens_of_start : (bs : List ℕ) → tokens_of bs ≡ tokens_of (drop (position_or_len (λ b. not (is_blank b)) bs) bs)
tokens_of_start [] = refl
tokens_of_start (b ∷ bs) = start_from b bs (is_blank b) refl (tokens_of_start bs)

-- what begins with a blank, or is empty, has the tokens behind that blank
tokens_of_end : (bs : List ℕ) → tokens_of (drop (position_or_len is_blank bs) bs) ≡ tokens_of (drop (position_or_len is_blank bs + 1) bs)
tokens_of_end bs =
    elim (cases_lt (position_or_len is_blank bs) (length bs)) [
      | inl lt ↦ rw (drop_more bs (position_or_len is_blank bs) 0 lt) (tokens_of_blank _ _ (passes_at_first is_blank bs 0 lt))
      | inr le ↦ rw (drop_all (position_or_len is_blank bs) bs le, drop_all (position_or_len is_blank bs + 1) bs (omega arith)) refl
    ]

tokens_of_is : (bs : List ℕ) → tokens_of bs ≡ filter is_some_bytes (parts is_blank bs)
unfolding tokens_of
tokens_of_is bs = refl

kept : (x : List ℕ) (xs : List (List ℕ)) → 0 < length x → filter is_some_bytes (x ∷ xs) ≡ x ∷ filter is_some_bytes xs
kept x xs lt = cond-true _ _ _ (lt-ltb 0 (length x) lt)

-- a token is what stands before the first blank, if that is any bytes
tokens_of_first : (bs : List ℕ) → 0 < position_or_len is_blank bs → tokens_of bs ≡ take (position_or_len is_blank bs) bs ∷ tokens_of (drop (position_or_len is_blank bs) bs)
unfolding tokens_of
tokens_of_first bs some =
    elim (cases_lt (position_or_len is_blank bs) (length bs)) [
      | inl lt ↦
          let p = position_or_len is_blank bs in
          tokens_of_is bs ∙ (ap (filter is_some_bytes) (parts_first is_blank bs lt)
          ∙ (kept (take p bs) (parts is_blank (drop (p + 1) bs)) (omega (arith, length-take p bs))
          ∙ ap (λ (ts : List (List ℕ)). take p bs ∷ ts) (sym (tokens_of_is (drop (p + 1) bs)) ∙ sym (tokens_of_end bs))))
      | inr le ↦
          let p = position_or_len is_blank bs in
          let n = prefix_len-le-length (λ b. not (is_blank b)) bs in
          rw (take_all p bs le, drop_all p bs le) (tokens_of_is bs ∙ (ap (filter is_some_bytes) (parts_none is_blank bs le) ∙ kept bs [] (omega arith)))
    ]

-- where a blank or the end comes first, and no blank does, there is no token
tokens_of_none : (line : List ℕ) → position_or_len is_blank (drop (position_or_len (λ b. not (is_blank b)) line) line) ≡ 0 → tokens_of line ≡ []
unfolding tokens_of
tokens_of_none line e =
    elim (cases_lt (position_or_len (λ b. not (is_blank b)) line) (length line)) [
      | inl lt ↦
          let p = position_or_len (λ b. not (is_blank b)) line in
          let one : position_or_len is_blank (drop p line) ≡ 1 + position_or_len is_blank (drop (p + 1) line) = ap (position_or_len is_blank) (drop_more line p 0 lt) ∙ cond-true _ _ _ (passes_at_first (λ b. not (is_blank b)) line 0 lt) in
          absurd (omega (arith, one, e))
      | inr le ↦ tokens_of_start line ∙ ap tokens_of (drop_all _ line le)
    ]

-- the two answers of `token`, where s blanks stand in front and the first blank behind them is at e
pub token_none : (line : List ℕ) (s e : ℕ) → s ≡ position_or_len (λ b. not (is_blank b)) line → e ≡ position_or_len is_blank (take (length line - s) (drop s line)) → e ≡ 0 → tokens_of line ≡ []
token_none line s e s-is e-is zero-is =
    let h : position_or_len is_blank (drop s line) ≡ 0 = sym (e-is ∙ ap (position_or_len is_blank) (take_rest line s)) ∙ zero-is in
    tokens_of_none line (rw (← s-is) h)

pub token_some : (line : List ℕ) (s e : ℕ) → s ≡ position_or_len (λ b. not (is_blank b)) line → e ≡ position_or_len is_blank (take (length line - s) (drop s line)) → 0 < e
    → tokens_of line ≡ take e (take (length line - s) (drop s line)) ∷ tokens_of (drop e (take (length line - s) (drop s line)))
token_some line s e s-is e-is some =
    let h : e ≡ position_or_len is_blank (drop s line) = e-is ∙ ap (position_or_len is_blank) (take_rest line s) in
    let t : tokens_of line ≡ tokens_of (drop s line) = rw s-is (tokens_of_start line) in
    rw (take_rest line s) (t ∙ rw h (tokens_of_first (drop s line) (omega arith)))

-- ---- lines

lines_of_is : (bs : List ℕ) → lines_of bs ≡ parts is_newline bs
unfolding lines_of
lines_of_is bs = refl

-- the two answers of `split_line`, where the first LF is at n
pub last_line : (bs : List ℕ) (n : ℕ) → n ≡ position_or_len is_newline bs → n ≡ length bs → lines_of bs ≡ bs ∷ []
last_line bs n n-is all = lines_of_is bs ∙ parts_none is_newline bs (omega arith)

pub first_line : (bs : List ℕ) (n : ℕ) → n ≡ position_or_len is_newline bs → n < length bs → lines_of bs ≡ take n bs ∷ lines_of (take (length bs - (n + 1)) (drop (n + 1) bs))
first_line bs n n-is lt =
    let h : lines_of bs ≡ take (position_or_len is_newline bs) bs ∷ parts is_newline (drop (position_or_len is_newline bs + 1) bs) = lines_of_is bs ∙ parts_first is_newline bs (omega arith) in
    rw (take_rest bs (n + 1), lines_of_is (drop (n + 1) bs), n-is) h

onto_first_length : (b : ℕ) (ps : List (List ℕ)) → length (onto_first b ps) ≤ length ps + 1
onto_first_length b [] = omega arith
onto_first_length b (p ∷ ps) = omega arith

-- there are at most as many lines as bytes, and one more
lines_bound : (bs : List ℕ) → length (parts is_newline bs) ≤ length bs + 1
lines_bound [] = omega arith
lines_bound (b ∷ bs) = more (is_newline b) (lines_bound bs) where
  more : (newline : Bool) → length (parts is_newline bs) ≤ length bs + 1 → length (cond newline ([] ∷ parts is_newline bs) (onto_first b (parts is_newline bs))) ≤ length (b ∷ bs) + 1
  more true le = omega arith
  more false le = omega (arith, onto_first_length b (parts is_newline bs))

pub length-lines_of : (bs : List ℕ) → length (lines_of bs) ≤ length bs + 1
length-lines_of bs = rw (lines_of_is bs) (lines_bound bs)
