-- Decimal digits cut off at a place and rounded, against their exact value.
use Rattle.std.proofs.Common.{◌≡◌, ℕ, zero, suc, ◌+◌, ◌-◌, ◌*◌, ◌/◌, ◌^◌, ◌<◌, ◌≤◌, min, Bool, true, false, cond, leb, List, [], ◌∷◌, ◌++◌, length, map, take, drop, get_or, Some, None, ℤ, pos, negsuc, ◌+ℤ◌, ◌-ℤ◌, neg_ℤ, refl, sym, ap, ◌∙◌, add-one, inl, inr, arith}
use Rattle.std.specs.List.{list_all}
use Rattle.std.proofs.lemmas.Int.{ints}
use Rattle.std.proofs.lemmas.Int.Digits.{number_after_lt, number_after_append}
use Rattle.std.specs.Int.Digits.{number_from_digits_after}
use Rattle.std.proofs.lemmas.Bool.{le-leb, lt-leb, leb-true, leb-false, and_parts, cases_lt}
use Rattle.std.proofs.lemmas.List.{take_all, drop_more, get_or_past, get_or_default, length-drop, take-append-drop, map-append, length-map, length-append}
use Rattle.std.proofs.lemmas.Nat.{div_below, le-div, mul-le}
use Rattle.std.proofs.Math.Nat.{pow-suc, pow-succ', pow-le-pow_right, mul_assoc}
use Rattle.input_defs.specs.line_defs.Numbers.{is_digit, number_of_digits}
use Rattle.input_defs.specs.scan_defs.Numbers.{scaled}
use Rattle.input_defs.proofs.scan_defs.Huge.{ten_pow-pos, number_of_digits-lt, scaled-zero, scaled-great, scaled-small, digits_below}
use Rattle.scan.specs.Rounding.{in_range, kept_value, magnitude_in_range}
use Rattle.scan.proofs.Digits.{after, after-ge, digit_bounds}

-- ---- in range or not

pub range-some : (n m : ℕ) → n ≡ m → m ≤ 9 * 10 ^ 18 → Some m ≡ in_range n
range-some n m e le = rw (e, le-leb m (9 * 10 ^ 18) le) refl

pub range-none : (n : ℕ) → 9 * 10 ^ 18 < n → None ≡ in_range n
range-none n lt = rw (lt-leb n (9 * 10 ^ 18) lt) refl

some-at : (b : Bool) (n m : ℕ) → leb n (9 * 10 ^ 18) ≡ b → Some m ≡ cond b (Some n) None → (m ≡ n) × (n ≤ 9 * 10 ^ 18)
some-at true n m e s = (cc, leb-true n (9 * 10 ^ 18) e)
some-at false n m e s = absurd cc

pub in_range-some : (n m : ℕ) → Some m ≡ in_range n → (m ≡ n) × (n ≤ 9 * 10 ^ 18)
in_range-some n m s = some-at (leb n (9 * 10 ^ 18)) n m refl s

none-at : (b : Bool) (n : ℕ) → leb n (9 * 10 ^ 18) ≡ b → None ≡ cond b (Some n) None → 9 * 10 ^ 18 < n
none-at true n e s = absurd cc
none-at false n e s = leb-false n (9 * 10 ^ 18) e

pub in_range-none : (n : ℕ) → None ≡ in_range n → 9 * 10 ^ 18 < n
in_range-none n s = none-at (leb n (9 * 10 ^ 18)) n refl s

-- ---- zeros after a number

pub times-ten : (n k : ℕ) → n * 10 ^ (k + 1) ≡ (n * 10) * 10 ^ k
times-ten n k =
    let p : 10 ^ (k + 1) ≡ 10 * 10 ^ k = rw add-one (pow-succ' 10 k) in
    ap (λ m. n * m) p ∙ sym (mul_assoc n 10 (10 ^ k))

-- too many of them
pub zeros-far : (n count : ℕ) → 1 ≤ n → 18 < count → 9 * 10 ^ 18 < n * 10 ^ count
unfolding scaled
zeros-far n count some far = scaled-great n count some (omega arith)

-- ---- the value of the digits that are kept

take-both : (k : ℕ) (xs ys : List ℕ) → take k (xs ++ ys) ≡ take k xs ++ take (k - length xs) ys
take-both zero xs ys = let e : 0 - length xs ≡ 0 = omega arith in rw e refl
take-both (suc k) [] ys = let e : suc k - 0 ≡ suc k = omega arith in rw e refl
take-both (suc k) (x ∷ xs) ys =
    let e : suc k - length (x ∷ xs) ≡ k - length xs = omega arith in
    ap (λ zs. x ∷ zs) (take-both k xs ys) ∙ rw e refl

after-both : (n : ℕ) (xs ys : List ℕ) → after n (xs ++ ys) ≡ after (after n xs) ys
after-both n xs ys = ap (number_from_digits_after 10 n) (map-append (λ b. b - 48) xs ys) ∙ number_after_append 10 n (map (λ b. b - 48) xs) (map (λ b. b - 48) ys)

kept-is : (whole fraction : List ℕ) (keep : ℕ) → kept_value (whole ++ fraction) keep
    ≡ after (after 0 (take keep whole)) (take (keep - length whole) fraction) * 10 ^ (keep - (length whole + length fraction)) + cond (leb 53 (get_or (whole ++ fraction) keep 48)) 1 0
unfolding kept_value
kept-is whole fraction keep =
    let a : after 0 (take keep (whole ++ fraction)) ≡ after (after 0 (take keep whole)) (take (keep - length whole) fraction) = ap (after 0) (take-both keep whole fraction) ∙ after-both 0 (take keep whole) (take (keep - length whole) fraction) in
    rw (a, length-append whole fraction) refl

-- ---- the exact value

all-drop : (ds : List ℕ) (k : ℕ) → list_all is_digit ds ≡ true → list_all is_digit (drop k ds) ≡ true
all-drop ds zero all = all
all-drop [] (suc k) all = refl
all-drop (d ∷ ds) (suc k) all = all-drop ds k (and_parts _ _ all).1

number-split : (ds : List ℕ) (k : ℕ) → after 0 ds ≡ after (after 0 (take k ds)) (drop k ds)
number-split ds k = ap (after 0) (sym (take-append-drop k ds)) ∙ after-both 0 (take k ds) (drop k ds)

after-low : (n : ℕ) (ds : List ℕ) → n * 10 ^ length ds ≤ after n ds
after-low n [] = omega arith
after-low n (d ∷ ds) =
    let h = after-low (n * 10 + (d - 48)) ds in
    let t : n * 10 ^ suc (length ds) ≡ (n * 10) * 10 ^ length ds = rw add-one at (times-ten n (length ds)) in
    let m : (n * 10) * 10 ^ length ds ≤ (n * 10 + (d - 48)) * 10 ^ length ds = mul-le (n * 10) (10 ^ length ds) (n * 10 + (d - 48)) (10 ^ length ds) (omega arith) (omega arith) in
    omega (arith, h, t, m)

after-high : (n : ℕ) (ds : List ℕ) → list_all is_digit ds ≡ true → after n ds < (n + 1) * 10 ^ length ds
after-high n ds all = rw length-map at (number_after_lt 10 n (map (λ b. b - 48) ds) (digits_below ds all))

div-is : (n r d : ℕ) → 0 < d → r * d ≤ n → n < (r + 1) * d → n / d ≡ r
div-is n r d some low high =
    let a = le-div r n d some low in
    let b = div_below n d (r + 1) some high in
    omega arith

-- ten digits' worth p of the first digit x that is cut off after q
rounds-up : (q x p m : ℕ) → 1 ≤ p → 5 ≤ x → x ≤ 9 → (q * 10 + x) * p ≤ m → m < (q * 10 + x + 1) * p → (2 * m + 10 * p) / (2 * (10 * p)) ≡ q + 1
rounds-up q x p m some up nine low high =
    let l : (q * 10 + x) * p ≡ 10 * (q * p) + x * p = grind arith in
    let h : (q * 10 + x + 1) * p ≡ 10 * (q * p) + (x + 1) * p = grind arith in
    let five : 5 * p ≤ x * p = mul-le 5 p x p up (omega arith) in
    let ten : (x + 1) * p ≤ 10 * p = mul-le (x + 1) p 10 p (omega arith) (omega arith) in
    let a : (q + 1) * (2 * (10 * p)) ≡ 20 * (q * p) + 20 * p = grind arith in
    let b : (q + 1 + 1) * (2 * (10 * p)) ≡ 20 * (q * p) + 40 * p = grind arith in
    div-is (2 * m + 10 * p) (q + 1) (2 * (10 * p)) (omega arith) (omega arith) (omega arith)

rounds-down : (q x p m : ℕ) → 1 ≤ p → x < 5 → (q * 10 + x) * p ≤ m → m < (q * 10 + x + 1) * p → (2 * m + 10 * p) / (2 * (10 * p)) ≡ q
rounds-down q x p m some down low high =
    let l : (q * 10 + x) * p ≡ 10 * (q * p) + x * p = grind arith in
    let h : (q * 10 + x + 1) * p ≡ 10 * (q * p) + (x + 1) * p = grind arith in
    let five : (x + 1) * p ≤ 5 * p = mul-le (x + 1) p 5 p (omega arith) (omega arith) in
    let a : q * (2 * (10 * p)) ≡ 20 * (q * p) = grind arith in
    let b : (q + 1) * (2 * (10 * p)) ≡ 20 * (q * p) + 20 * p = grind arith in
    div-is (2 * m + 10 * p) q (2 * (10 * p)) (omega arith) (omega arith) (omega arith)

rounds : (b : Bool) (q d p m : ℕ) → leb 53 d ≡ b → 1 ≤ p → d ≤ 57 → (q * 10 + (d - 48)) * p ≤ m → m < (q * 10 + (d - 48) + 1) * p → (2 * m + 10 * p) / (2 * (10 * p)) ≡ q + cond b 1 0
rounds true q d p m e some nine low high = let up = leb-true 53 d e in rounds-up q (d - 48) p m some (omega arith) (omega arith) low high
rounds false q d p m e some nine low high = let down = leb-false 53 d e in rounds-down q (d - 48) p m some (omega arith) low high ∙ omega arith

-- digits that are cut off
scaled-cut : (ds : List ℕ) (keep : ℕ) → list_all is_digit ds ≡ true → keep < length ds → scaled (number_of_digits ds) (negsuc (length ds - keep - 1)) ≡ kept_value ds keep
unfolding scaled kept_value
scaled-cut ds keep all lt =
    let k : ℕ = length ds - keep - 1 in
    let d : ℕ = get_or ds keep 0 in
    let q : ℕ = number_of_digits (take keep ds) in
    let rest : List ℕ = drop (keep + 1) ds in
    let range : (48 ≤ d) × (d ≤ 57) = digit_bounds ds keep all lt in
    let whole : number_of_digits ds ≡ after (q * 10 + (d - 48)) rest = number-split ds keep ∙ ap (after q) (drop_more ds keep 0 lt) in
    let len : length rest ≡ k = length-drop (keep + 1) ds ∙ omega arith in
    let low : (q * 10 + (d - 48)) * 10 ^ k ≤ number_of_digits ds = rw (whole, ← len) (after-low (q * 10 + (d - 48)) rest) in
    let high : number_of_digits ds < (q * 10 + (d - 48) + 1) * 10 ^ k = rw (whole, ← len) (after-high (q * 10 + (d - 48)) rest (all-drop ds (keep + 1) all)) in
    let ten : 10 ^ (k + 1) ≡ 10 * 10 ^ k = rw add-one (pow-succ' 10 k) in
    let none : keep - length ds ≡ 0 = omega arith in
    let same : get_or ds keep 48 ≡ d = get_or_default ds keep 48 0 lt in
    let r = rounds (leb 53 d) q d (10 ^ k) (number_of_digits ds) refl (ten_pow-pos k) range.1 low high in
    rw (ten, none, same) (r ∙ omega arith)

-- digits that are all kept
scaled-whole : (ds : List ℕ) (keep : ℕ) → length ds ≤ keep → scaled (number_of_digits ds) (pos (keep - length ds)) ≡ kept_value ds keep
unfolding scaled kept_value
scaled-whole ds keep le = rw (take_all keep ds le, get_or_past ds keep 48 le) (omega arith)

pub all-take : (ds : List ℕ) (k : ℕ) → list_all is_digit ds ≡ true → list_all is_digit (take k ds) ≡ true
all-take ds zero all = refl
all-take [] (suc k) all = refl
all-take (d ∷ ds) (suc k) all = let both = and_parts (is_digit d) (list_all is_digit ds) all in rw (both.0, all-take ds k both.1) refl

-- ---- the steps by which the kept digits are read

-- the number is out of range with the digits before the point, with those after it, or with the zeros
pub kept-none-whole : (whole fraction : List ℕ) (keep : ℕ) → None ≡ in_range (after 0 (take keep whole)) → None ≡ in_range (kept_value (whole ++ fraction) keep)
kept-none-whole whole fraction keep e =
    let a : ℕ = after 0 (take keep whole) in
    let b : ℕ = after a (take (keep - length whole) fraction) in
    let p : ℕ = 10 ^ (keep - (length whole + length fraction)) in
    let t : b * 1 ≤ b * p = mul-le b 1 b p (omega arith) (ten_pow-pos (keep - (length whole + length fraction))) in
    let g : a ≤ b = after-ge a (take (keep - length whole) fraction) in
    let n : 9 * 10 ^ 18 < a = in_range-none a e in
    range-none (kept_value (whole ++ fraction) keep) (rw (kept-is whole fraction keep) (omega arith))

pub kept-none-fraction : (whole fraction : List ℕ) (keep a : ℕ) → Some a ≡ in_range (after 0 (take keep whole)) → None ≡ in_range (after a (take (keep - length whole) fraction)) → None ≡ in_range (kept_value (whole ++ fraction) keep)
kept-none-fraction whole fraction keep a s e =
    let is = (in_range-some _ a s).0 in
    let b : ℕ = after a (take (keep - length whole) fraction) in
    let p : ℕ = 10 ^ (keep - (length whole + length fraction)) in
    let t : b * 1 ≤ b * p = mul-le b 1 b p (omega arith) (ten_pow-pos (keep - (length whole + length fraction))) in
    let n : 9 * 10 ^ 18 < b = in_range-none b e in
    range-none (kept_value (whole ++ fraction) keep) (rw (kept-is whole fraction keep, ← is) (omega arith))

pub kept-none-zeros : (whole fraction : List ℕ) (keep a b : ℕ) → Some a ≡ in_range (after 0 (take keep whole)) → Some b ≡ in_range (after a (take (keep - length whole) fraction))
    → None ≡ in_range (b * 10 ^ (keep - (length whole + length fraction))) → None ≡ in_range (kept_value (whole ++ fraction) keep)
kept-none-zeros whole fraction keep a b s t e =
    let is = (in_range-some _ a s).0 in
    let ib = (in_range-some _ b t).0 in
    let n : 9 * 10 ^ 18 < b * 10 ^ (keep - (length whole + length fraction)) = in_range-none _ e in
    range-none (kept_value (whole ++ fraction) keep) (rw (kept-is whole fraction keep, ← is, ← ib) (omega arith))

-- the number before it is rounded
pub kept-some : (whole fraction : List ℕ) (keep a b n : ℕ) → Some a ≡ in_range (after 0 (take keep whole)) → Some b ≡ in_range (after a (take (keep - length whole) fraction))
    → Some n ≡ in_range (b * 10 ^ (keep - (length whole + length fraction))) → (kept_value (whole ++ fraction) keep ≡ n + cond (leb 53 (get_or (whole ++ fraction) keep 48)) 1 0) × (n ≤ 9 * 10 ^ 18)
kept-some whole fraction keep a b n s t u =
    let is = (in_range-some _ a s).0 in
    let ib = (in_range-some _ b t).0 in
    let iu = in_range-some _ n u in
    (rw (kept-is whole fraction keep, ← is, ← ib, ← iu.0) refl, rw (← iu.0) at iu.1)

pub kept-down : (value n d : ℕ) → (value ≡ n + cond (leb 53 d) 1 0) × (n ≤ 9 * 10 ^ 18) → d < 53 → Some n ≡ in_range value
kept-down value n d k lt = range-some value n (k.0 ∙ rw (lt-leb 53 d lt) (omega arith)) k.1

pub kept-up : (value n d : ℕ) → (value ≡ n + cond (leb 53 d) 1 0) × (n ≤ 9 * 10 ^ 18) → 53 ≤ d → n < 9 * 10 ^ 18 → Some (n + 1) ≡ in_range value
kept-up value n d k ge lt = range-some value (n + 1) (k.0 ∙ rw (le-leb 53 d ge) refl) (omega arith)

pub kept-above : (value n d : ℕ) → (value ≡ n + cond (leb 53 d) 1 0) × (n ≤ 9 * 10 ^ 18) → 53 ≤ d → 9 * 10 ^ 18 ≤ n → None ≡ in_range value
kept-above value n d k ge le = range-none value (rw (k.0, le-leb 53 d ge) (omega arith))

-- ---- the size of a number with this power of ten

-- the exponent of ten, less the digits after the point, in 10^-10
abbrev pub shift : Bool → ℕ → ℕ → ℤ
shift minus power places = (cond minus (neg_ℤ (pos power)) (pos power) -ℤ pos places) +ℤ pos 10

-- digits that reach so far after the point that none is kept
scaled-none : (ds : List ℕ) (k : ℕ) → list_all is_digit ds ≡ true → length ds ≤ k → scaled (number_of_digits ds) (negsuc k) ≡ 0
scaled-none ds k all le =
    let m : number_of_digits ds < 10 ^ length ds = number_of_digits-lt ds all in
    let far : length ds + 1 ≤ k + 1 = omega arith in
    let p : 10 ^ (length ds + 1) ≤ 10 ^ (k + 1) = pow-le-pow_right (omega arith) far in
    let s : 10 ^ (length ds + 1) ≡ 10 ^ length ds * 10 = rw (add-one) (pow-suc 10 (length ds)) in
    scaled-small (number_of_digits ds) k (omega arith)

-- so many digits are kept
kept-size : (ds : List ℕ) (keep : ℕ) (e : ℤ) → list_all is_digit ds ≡ true → e ≡ pos keep -ℤ pos (length ds) → scaled (number_of_digits ds) e ≡ kept_value ds keep
kept-size ds keep e all is = elim (cases_lt keep (length ds)) [
  | inl lt ↦ let k : e ≡ negsuc (length ds - keep - 1) = omega (arith, ints, is) in ap (scaled (number_of_digits ds)) k ∙ scaled-cut ds keep all lt
  | inr ge ↦ let k : e ≡ pos (keep - length ds) = omega (arith, ints, is) in ap (scaled (number_of_digits ds)) k ∙ scaled-whole ds keep ge
]

-- a power that is cut down to the greatest number reads as itself: all digits are 0, or both are out of range
far-size : (ds : List ℕ) (keep k : ℕ) → length ds + 19 ≤ keep → 19 ≤ k → in_range (scaled (number_of_digits ds) (pos k)) ≡ in_range (kept_value ds keep)
far-size ds keep k far great = elim (cases_lt 0 (number_of_digits ds)) [
  | inl some ↦
      let le : length ds ≤ keep = omega arith in
      let a : 9 * 10 ^ 18 < scaled (number_of_digits ds) (pos k) = scaled-great (number_of_digits ds) k (omega arith) great in
      let b : 9 * 10 ^ 18 < scaled (number_of_digits ds) (pos (keep - length ds)) = scaled-great (number_of_digits ds) (keep - length ds) (omega arith) (omega arith) in
      sym (range-none (scaled (number_of_digits ds) (pos k)) a) ∙ range-none (kept_value ds keep) (rw (← scaled-whole ds keep le) b)
  | inr none ↦
      let le : length ds ≤ keep = omega arith in
      let zero-is : number_of_digits ds ≡ 0 = omega arith in
      let a : scaled (number_of_digits ds) (pos k) ≡ 0 = ap (λ m. scaled m (pos k)) zero-is ∙ scaled-zero (pos k) in
      let b : scaled (number_of_digits ds) (pos (keep - length ds)) ≡ 0 = ap (λ m. scaled m (pos (keep - length ds))) zero-is ∙ scaled-zero (pos (keep - length ds)) in
      ap in_range (a ∙ sym b ∙ scaled-whole ds keep le)
]

size-plus : (whole fraction : List ℕ) (power : ℕ) → list_all is_digit (whole ++ fraction) ≡ true → length whole + length fraction < 2 ^ 63
    → in_range (scaled (number_of_digits (whole ++ fraction)) (shift false power (length fraction))) ≡ magnitude_in_range whole fraction (record { minus = false; size = min power (2 ^ 64 - 1) })
unfolding magnitude_in_range
size-plus whole fraction power all short =
    let n : length (whole ++ fraction) ≡ length whole + length fraction = length-append whole fraction in
    elim (cases_lt (2 ^ 64 - 1) (length whole + 10 + power)) [
      | inl gt ↦
          let keep : min (length whole + 10 + min power (2 ^ 64 - 1)) (2 ^ 64 - 1) ≡ 2 ^ 64 - 1 = omega arith in
          let e : shift false power (length fraction) ≡ pos (power + 10 - length fraction) = omega (arith, ints) in
          rw (keep, e) (far-size (whole ++ fraction) (2 ^ 64 - 1) (power + 10 - length fraction) (omega arith) (omega arith))
      | inr le ↦
          let keep : min (length whole + 10 + min power (2 ^ 64 - 1)) (2 ^ 64 - 1) ≡ length whole + 10 + power = omega arith in
          rw keep (ap in_range (kept-size (whole ++ fraction) (length whole + 10 + power) (shift false power (length fraction)) all (omega (arith, ints, n))))
    ]

size-minus : (whole fraction : List ℕ) (power : ℕ) → list_all is_digit (whole ++ fraction) ≡ true → length whole + length fraction < 2 ^ 63
    → in_range (scaled (number_of_digits (whole ++ fraction)) (shift true power (length fraction))) ≡ magnitude_in_range whole fraction (record { minus = true; size = min power (2 ^ 64 - 1) })
unfolding magnitude_in_range
size-minus whole fraction power all short =
    let n : length (whole ++ fraction) ≡ length whole + length fraction = length-append whole fraction in
    elim (cases_lt (length whole + 10) (min power (2 ^ 64 - 1))) [
      | inl gt ↦
          let e : shift true power (length fraction) ≡ negsuc (power + length fraction - 11) = omega (arith, ints) in
          let z : scaled (number_of_digits (whole ++ fraction)) (shift true power (length fraction)) ≡ 0 =
          ap (scaled (number_of_digits (whole ++ fraction))) e ∙ scaled-none (whole ++ fraction) (power + length fraction - 11) all (omega arith) in
          rw (z, lt-leb (min power (2 ^ 64 - 1)) (length whole + 10) gt) refl
      | inr le ↦
          let same : min power (2 ^ 64 - 1) ≡ power = omega arith in
          let small : power ≤ length whole + 10 = omega arith in
          rw (same, le-leb power (length whole + 10) small)
          (ap in_range (kept-size (whole ++ fraction) (length whole + 10 - power) (shift true power (length fraction)) all (omega (arith, ints, n))))
    ]

pub magnitude-is : (whole fraction : List ℕ) (minus : Bool) (power : ℕ) → list_all is_digit (whole ++ fraction) ≡ true → length whole + length fraction < 2 ^ 63
    → in_range (scaled (number_of_digits (whole ++ fraction)) (shift minus power (length fraction))) ≡ magnitude_in_range whole fraction (record { minus = minus; size = min power (2 ^ 64 - 1) })
magnitude-is whole fraction true power all short = size-minus whole fraction power all short
magnitude-is whole fraction false power all short = size-plus whole fraction power all short
