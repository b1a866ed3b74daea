-- Parts of lists of bytes between those that pass a test, seen from a place in the first of them.
use Rattle.std.proofs.Common.{◌≡◌, ℕ, zero, suc, ◌+◌, ◌-◌, ◌<◌, ◌≤◌, Bool, true, false, not, cond, ◌||◌, ◌&&◌, Some, None, List, [], ◌∷◌, ◌++◌, length, take, drop, get_or, reverse, refl, ap, ◌∙◌, inl, inr, arith}
use Rattle.std.specs.List.{list_all, prefix_len, position_or_len, suffix_len}
use Rattle.std.proofs.lemmas.Bool.{cases_lt, ne_eqb, cond-false}
use Rattle.std.proofs.lemmas.List.{length-reverse, get_or-reverse, get_or_past, get_or_default, reverse-append}
use Rattle.std.proofs.lemmas.List.Folds.{prefix_len-append}
use Rattle.std.proofs.lemmas.List.Sums.{prefix_len_passes, list_all-from_AllPass}
use Rattle.input_defs.specs.line_defs.Rows.{is_blank, is_newline, onto_first, parts}
use Rattle.input_defs.specs.scan_defs.Lines.{front, back}
use Rattle.scan.specs.Cursors.{is_gap}

-- the parts after the first
abbrev pub others : List (List ℕ) → List (List ℕ)
others [] = []
others (part ∷ parts) = parts

first-cons : (b : Bool) (x : ℕ) (xs : List ℕ) (n : ℕ) (ps : List (List ℕ)) → ps ≡ take n xs ∷ others ps
    → cond b ([] ∷ ps) (onto_first x ps) ≡ take (cond (not b) (1 + n) 0) (x ∷ xs) ∷ others (cond b ([] ∷ ps) (onto_first x ps))
first-cons true x xs n ps e = refl
first-cons false x xs n [] e = absurd cc
first-cons false x xs n (p ∷ os) e =
    let one : 1 + n ≡ suc n = omega arith in
    let same : p ≡ take n xs = cc in
    rw (one, same) refl

-- what stands before the first byte that passes is the first part
pub parts-first : (test : ℕ → Bool) (xs : List ℕ) → parts test xs ≡ take (position_or_len test xs) xs ∷ others (parts test xs)
parts-first test [] = refl
parts-first test (x ∷ xs) = first-cons (test x) x xs (position_or_len test xs) (parts test xs) (parts-first test xs)

others-onto : (x : ℕ) (ps : List (List ℕ)) → others (onto_first x ps) ≡ others ps
others-onto x [] = refl
others-onto x (p ∷ ps) = refl

from-cons : (b : Bool) (k x : ℕ) (xs : List ℕ) (n : ℕ) (ps qs : List (List ℕ)) → suc k ≤ cond (not b) (1 + n) 0 → (k ≤ n → qs ≡ drop k (take n xs) ∷ others ps)
    → qs ≡ drop (suc k) (take (cond (not b) (1 + n) 0) (x ∷ xs)) ∷ others (cond b ([] ∷ ps) (onto_first x ps))
from-cons true k x xs n ps qs le e = absurd (omega arith)
from-cons false k x xs n ps qs le e =
    let one : 1 + n ≡ suc n = omega arith in
    rw (one, others-onto x ps) (e (omega arith))

-- from a place in the first part on the others stay
pub parts-from : (test : ℕ → Bool) (k : ℕ) (xs : List ℕ) → k ≤ position_or_len test xs → parts test (drop k xs) ≡ drop k (take (position_or_len test xs) xs) ∷ others (parts test xs)
parts-from test zero xs le = parts-first test xs
parts-from test (suc k) [] le = absurd (omega arith)
parts-from test (suc k) (x ∷ xs) le = from-cons (test x) k x xs (position_or_len test xs) (parts test xs) (parts test (drop k xs)) le (parts-from test k xs)

-- ---- the run of bytes up to a gap lies in the first line, up to its first blank

gap-cons : (blank line : Bool) (g n : ℕ) (xs : List ℕ) → (g ≡ position_or_len is_blank (take n xs)) → (x : ℕ) → is_blank x ≡ blank
    → cond (not (blank || line)) (1 + g) 0 ≡ position_or_len is_blank (take (cond (not line) (1 + n) 0) (x ∷ xs))
gap-cons true true g n xs e x is = refl
gap-cons false true g n xs e x is = refl
gap-cons true false g n xs e x is = let one : 1 + n ≡ suc n = omega arith in rw (one, is) refl
gap-cons false false g n xs e x is = let one : 1 + n ≡ suc n = omega arith in rw (one, is, e) refl

pub gap-in-line : (xs : List ℕ) → position_or_len is_gap xs ≡ position_or_len is_blank (take (position_or_len is_newline xs) xs)
gap-in-line [] = refl
gap-in-line (x ∷ xs) = gap-cons (is_blank x) (is_newline x) (position_or_len is_gap xs) (position_or_len is_newline xs) xs (gap-in-line xs) x refl

-- ---- the end of a part without the blanks that end it

reverse-cons : (b : ℕ) (xs : List ℕ) → reverse (b ∷ xs) ≡ reverse xs ++ b ∷ []
reverse-cons b xs = reverse-append (b ∷ []) xs

pub back-cons : (b : ℕ) (xs : List ℕ) → 0 < back xs → back (b ∷ xs) ≡ back xs + 1
back-cons b xs some =
    let n = length-reverse xs in
    let s : suffix_len is_blank xs < length xs = omega arith in
    let e : suffix_len is_blank (b ∷ xs) ≡ suffix_len is_blank xs =
    ap (prefix_len is_blank) (reverse-cons b xs) ∙ (prefix_len-append is_blank (reverse xs) (b ∷ []) ∙ cond-false _ _ _ (ne_eqb (prefix_len is_blank (reverse xs)) (length (reverse xs)) (λ q. omega (arith, n, q)))) in
    omega (arith, e)

-- with nothing before the end all bytes are blanks
all-blank : (xs : List ℕ) (k : ℕ) → back xs ≤ 0 → k < length xs → is_blank (get_or xs k 0) ≡ true
all-blank xs k none lt =
    let j : ℕ = length xs - 1 - k in
    let blank : is_blank (get_or (reverse xs) j 0) ≡ true = prefix_len_passes is_blank (reverse xs) j 0 (omega arith) in
    let at : get_or (reverse xs) j 0 ≡ get_or xs (length xs - 1 - j) 0 = get_or-reverse xs j 0 (omega arith) in
    let same : length xs - 1 - j ≡ k = omega arith in
    rw (at, same) at blank

-- a byte that is no blank stands before the end
pub back-pos : (xs : List ℕ) → get_or xs (front xs) 0 ≡ 36 → 0 < back xs
back-pos xs e = elim (cases_lt 0 (back xs)) [
  | inl some ↦ some
  | inr none ↦ elim (cases_lt (front xs) (length xs)) [
    | inl lt ↦ let b : is_blank 36 ≡ true = rw e at (all-blank xs (front xs) none lt) in absurd (cc b)
    | inr ge ↦ let past = get_or_past xs (front xs) 0 ge in absurd (omega (arith, past, e))
  ]
]

pub back-some : (xs : List ℕ) → list_all is_blank xs ≡ false → 0 < back xs
back-some xs e = elim (cases_lt 0 (back xs)) [
  | inl some ↦ some
  | inr none ↦
      let all : list_all is_blank xs ≡ true = list_all-from_AllPass is_blank xs (λ k d lt. rw (get_or_default xs k d 0 lt) (all-blank xs k none lt)) in
      absurd (cc (e, all))
]

-- ---- what a test with an answer says

pub and-none : (b : Bool) → (b && false) ≡ false
and-none true = refl
and-none false = refl

pub cond-none : {X : Type 0} (b : Bool) (x : X) → None ≡ cond b (Some x) None → b ≡ false
cond-none true x e = absurd cc
cond-none false x e = refl

pub cond-some : {X : Type 0} (b : Bool) (x y : X) → Some y ≡ cond b (Some x) None → (b ≡ true) × (y ≡ x)
cond-some true x y e = (refl, cc)
cond-some false x y e = absurd cc
