-- Numbers digit by digit, with a number in front of the digits that are left.
use Rattle.std.proofs.Common.{◌≡◌, ℕ, ◌+◌, ◌-◌, ◌*◌, ◌^◌, ◌<◌, ◌≤◌, min, Bool, true, false, cond, leb, ◌&&◌, List, length, map, get_or, drop, Option, Some, None, refl, sym, ap, inl, inr, arith}
use Rattle.std.specs.Int.Digits.{number_from_digits_after}
use Rattle.std.specs.List.{list_all}
use Rattle.std.proofs.lemmas.Int.Digits.{number_after_ge}
use Rattle.std.proofs.lemmas.Bool.{leb-true, le-leb, and_parts, cases_lt}
use Rattle.std.proofs.lemmas.List.{drop_more, drop_all}
use Rattle.std.proofs.lemmas.List.Sums.{AllPass-from_list_all}
use Rattle.input_defs.specs.line_defs.Numbers.{is_digit, number_of_digits}

-- the number with the digits after it
abbrev pub after : ℕ → List ℕ → ℕ
after n digits = number_from_digits_after 10 n (map (λ b. b - 48) digits)

pub after-ge : (n : ℕ) (digits : List ℕ) → n ≤ after n digits
after-ge n digits = number_after_ge 10 n (map (λ b. b - 48) digits) (omega arith)

-- a digit is a byte from 48 to 57
digit_range : (b : ℕ) → is_digit b ≡ true → (48 ≤ b) × (b ≤ 57)
digit_range b e =
    let parts = and_parts (leb 48 b) (leb b 57) e in
    (leb-true 48 b parts.0, leb-true b 57 parts.1)

pub digit_bounds : (ds : List ℕ) (i : ℕ) → list_all is_digit ds ≡ true → i < length ds → (48 ≤ get_or ds i 0) × (get_or ds i 0 ≤ 57)
digit_bounds ds i all lt = digit_range (get_or ds i 0) (AllPass-from_list_all is_digit ds all i 0 lt)

and_false : (b : Bool) → (b && false) ≡ false
and_false true = refl
and_false false = refl

-- one digit is taken over
pub after_more : (n : ℕ) (ds : List ℕ) (i : ℕ) → i < length ds → after n (drop i ds) ≡ after (n * 10 + (get_or ds i 0 - 48)) (drop (i + 1) ds)
after_more n ds i lt = ap (after n) (drop_more ds i 0 lt)

pub after_all : (n : ℕ) (ds : List ℕ) (i : ℕ) → length ds ≤ i → after n (drop i ds) ≡ n
after_all n ds i le = ap (after n) (drop_all i ds le)

-- ---- up to a greatest number

-- a number that is cut down to the greatest one stays as good as itself
pub after_min : (most n : ℕ) (ds : List ℕ) → min (after (min n most) ds) most ≡ min (after n ds) most
after_min most n ds = elim (cases_lt n most) [
  | inl lt ↦ let e : min n most ≡ n = omega arith in rw e refl
  | inr ge ↦ let e : min n most ≡ most = omega arith in
      let a : most ≤ after most ds = after-ge most ds in
      let b : n ≤ after n ds = after-ge n ds in
      rw e (omega arith)
]

-- one digit is taken over, cut down or not
pub capped_more : (most n n' d : ℕ) (ds : List ℕ) (i : ℕ) → i < length ds → d ≡ get_or ds i 0 → n' ≡ min (min (n * 10) most + (d - 48)) most
    → min (after n' (drop (i + 1) ds)) most ≡ min (after n (drop i ds)) most
capped_more most n n' d ds i lt at e =
    let cut : n' ≡ min (n * 10 + (d - 48)) most = omega arith in
    rw (cut, after_min most (n * 10 + (d - 48)) (drop (i + 1) ds), at) (ap (λ m. min m most) (sym (after_more n ds i lt)))

pub capped_all : (most n : ℕ) (ds : List ℕ) (i : ℕ) → length ds ≤ i → n ≤ most → n ≡ min (after n (drop i ds)) most
capped_all most n ds i le small = let e = after_all n ds i le in omega arith

-- ---- whether all are digits

pub all_more : (ds : List ℕ) (i : ℕ) (d : ℕ) → i < length ds → d ≡ get_or ds i 0 → is_digit d ≡ true → list_all is_digit (drop (i + 1) ds) ≡ list_all is_digit (drop i ds)
all_more ds i d lt at is = rw (drop_more ds i 0 lt, ← at, is) refl

pub all_not : (ds : List ℕ) (i : ℕ) (d : ℕ) → i < length ds → d ≡ get_or ds i 0 → is_digit d ≡ false → list_all is_digit (drop i ds) ≡ false
all_not ds i d lt at is = rw (drop_more ds i 0 lt, ← at, is) refl

pub all_all : (ds : List ℕ) (i : ℕ) → length ds ≤ i → list_all is_digit (drop i ds) ≡ true
all_all ds i le = rw (drop_all i ds le) refl

-- ---- whole numbers up to the greatest one

abbrev most : ℕ
most = 2 ^ 64 - 1

abbrev pub capped : List ℕ → Option ℕ
capped ds = cond (leb 1 (length ds) && list_all is_digit ds) (Some (min (number_of_digits ds) most)) None

pub capped_none : (ds : List ℕ) → list_all is_digit ds ≡ false → None ≡ capped ds
capped_none ds e = rw (e, and_false (leb 1 (length ds))) refl

pub capped_some : (ds : List ℕ) (n : ℕ) → 1 ≤ length ds → list_all is_digit ds ≡ true → n ≡ min (after 0 ds) most → Some n ≡ capped ds
capped_some ds n some all e = rw (le-leb 1 (length ds) some, all) (ap Some e)
