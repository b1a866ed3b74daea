-- Fixed-point numbers with huge exponents, whose powers of ten are not computed.
use Rattle.std.proofs.Common.{◌≡◌, ℕ, ◌+◌, ◌-◌, ◌*◌, ◌^◌, ◌<◌, ◌≤◌, Bool, true, false, leb, List, [], ◌∷◌, length, map, ℤ, pos, negsuc, ◌+ℤ◌, Ok, Err, refl, ap, ◌∙◌, add-one, arith}
use Rattle.std.specs.Int.Digits.{AllBelowBase}
use Rattle.std.specs.List.{list_all}
use Rattle.std.proofs.lemmas.Int.{ints}
use Rattle.std.proofs.lemmas.Int.Digits.{number_lt}
use Rattle.std.proofs.lemmas.Bool.{le-leb, lt-leb, and_parts, leb-true}
use Rattle.std.proofs.lemmas.List.{length-map}
use Rattle.std.proofs.lemmas.Nat.{mul-le}
use Rattle.std.proofs.Math.Nat.{pow-le-pow_right, pow-suc, zero-mul, div-eq_of_lt}
use Rattle.input_defs.specs.line_defs.Numbers.{is_digit, number_of_digits}
use Rattle.input_defs.specs.declared.scan_defs.NumberFault.TheVariants.{OutOfRange}
use Rattle.input_defs.specs.scan_defs.Numbers.{Decimal, scaled, with_sign, magnitude, fixed_value}

pub ten_pow-pos : (k : ℕ) → 1 ≤ 10 ^ k
ten_pow-pos k = let le : 0 ≤ k = omega arith in pow-le-pow_right (omega arith) le

-- ---- m * 10^k

pub scaled-small : (m k : ℕ) → 2 * m < 10 ^ (k + 1) → scaled m (negsuc k) ≡ 0
unfolding scaled
scaled-small m k small = div-eq_of_lt (omega arith)

pub scaled-zero : (k : ℤ) → scaled 0 k ≡ 0
unfolding scaled
scaled-zero (pos k) = zero-mul (10 ^ k)
scaled-zero (negsuc k) = scaled-small 0 k (let h = ten_pow-pos (k + 1) in omega arith)

pub scaled-great : (m k : ℕ) → 1 ≤ m → 19 ≤ k → 9 * 10 ^ 18 < scaled m (pos k)
unfolding scaled
scaled-great m k some far =
    let p : 10 ^ 19 ≤ 10 ^ k = pow-le-pow_right (omega arith) far in
    let q : 1 * 10 ^ 19 ≤ m * 10 ^ k = mul-le 1 (10 ^ 19) m (10 ^ k) some p in
    omega arith

-- ---- the number that digits write

pub digits_below : (ds : List ℕ) → list_all is_digit ds ≡ true → AllBelowBase 10 (map (λ b. b - 48) ds)
digits_below [] all = tt
digits_below (d ∷ ds) all =
    let both = and_parts _ _ all in
    let range = and_parts (leb 48 d) (leb d 57) both.0 in
    let top = leb-true d 57 range.1 in
    (omega arith, digits_below ds both.1)

pub number_of_digits-lt : (ds : List ℕ) → list_all is_digit ds ≡ true → number_of_digits ds < 10 ^ length ds
number_of_digits-lt ds all = let h = number_lt 10 (map (λ b. b - 48) ds) (digits_below ds all) in rw (← length-map ds (λ b. b - 48)) h

-- ---- values

-- within range
pub value-is : (x : Decimal) (n : ℕ) → magnitude x ≡ n → n ≤ 9 * 10 ^ 18 → fixed_value x ≡ Ok (with_sign x.minus n)
unfolding fixed_value
value-is x n e le = rw (e, le-leb n (9 * 10 ^ 18) le) refl

pub value-out : (x : Decimal) → 9 * 10 ^ 18 < magnitude x → fixed_value x ≡ Err OutOfRange
unfolding fixed_value
value-out x lt = rw (lt-leb (magnitude x) (9 * 10 ^ 18) lt) refl

with_sign-zero : (minus : Bool) → with_sign minus 0 ≡ pos 0
with_sign-zero true = refl
with_sign-zero false = refl

-- digits that are all 0 write the value 0, whatever the exponent
pub zero_at_any_exponent : (x : Decimal) → number_of_digits x.digits ≡ 0 → fixed_value x ≡ Ok (pos 0)
zero_at_any_exponent x e =
    let z : magnitude x ≡ 0 = ap (λ m. scaled m (x.exponent +ℤ pos 10)) e ∙ scaled-zero (x.exponent +ℤ pos 10) in
    value-is x 0 z (omega arith) ∙ ap Ok (with_sign-zero x.minus)

-- other digits are out of range from 10^9 on
pub out_of_range_far_above : (x : Decimal) (e : ℕ) → x.exponent ≡ pos e → 9 ≤ e → 1 ≤ number_of_digits x.digits → fixed_value x ≡ Err OutOfRange
out_of_range_far_above x e is far some = value-out x (rw is (scaled-great (number_of_digits x.digits) (e + 10) some (omega arith)))

-- and their value is 0 where all of them stand after the eleventh place
pub zero_far_below : (x : Decimal) (e : ℕ) → x.exponent ≡ negsuc e → length x.digits + 10 ≤ e → list_all is_digit x.digits ≡ true → fixed_value x ≡ Ok (pos 0)
zero_far_below x e is far all =
    let k : x.exponent +ℤ pos 10 ≡ negsuc (e - 10) = omega (arith, ints, is) in
    let m : number_of_digits x.digits < 10 ^ length x.digits = number_of_digits-lt x.digits all in
    let le : length x.digits + 1 ≤ (e - 10) + 1 = omega arith in
    let p : 10 ^ (length x.digits + 1) ≤ 10 ^ ((e - 10) + 1) = pow-le-pow_right (omega arith) le in
    let s : 10 ^ (length x.digits + 1) ≡ 10 ^ length x.digits * 10 = rw (add-one) (pow-suc 10 (length x.digits)) in
    let z : magnitude x ≡ 0 = ap (scaled (number_of_digits x.digits)) k ∙ scaled-small (number_of_digits x.digits) (e - 10) (omega arith) in
    value-is x 0 z (omega arith) ∙ ap Ok (with_sign-zero x.minus)
