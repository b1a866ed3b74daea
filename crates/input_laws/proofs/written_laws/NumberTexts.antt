-- The decimal texts of numbers are read back.
use Rattle.std.proofs.Common.{◌≡◌, ℕ, zero, suc, ◌+◌, ◌-◌, ◌*◌, ◌/◌, ◌%◌, ◌^◌, ◌<◌, ◌≤◌, Bool, true, false, cond, not, ◌&&◌, ◌||◌, ◌==◌, nat_le, List, [], ◌∷◌, ◌++◌, map, length, take, drop, ℤ, pos, negsuc, Ok, Err, refl, sym, ap, ap₂, ◌∙◌, arith, length-append, append-nil}
use Rattle.std.specs.Prelude.{Option, Some, None, neg_ℤ, ◌+ℤ◌, ◌-ℤ◌, decimal}
use Rattle.std.specs.Fmt.{signed_decimal}
use Rattle.std.specs.Str.Parse.{AllDigits}
use Rattle.std.specs.Char.{digit_value}
use Rattle.std.specs.Int.Digits.{number_from_digits_after, number_from_digits}
use Rattle.std.specs.List.{AllByRecursion, list_all, list_any, before_first, after_first, position_or_len}
use Rattle.std.proofs.lemmas.Bool.{le-leb, ne_eqb, eqb-true}
use Rattle.std.proofs.lemmas.Int.{ints}
use Rattle.std.proofs.lemmas.Int.Digits.{digits_value_is, number_after_append}
use Rattle.std.proofs.lemmas.Fmt.{decimal_is_IsNumeral}
use Rattle.std.proofs.lemmas.Str.{digit_value_digit}
use Rattle.std.proofs.lemmas.Str.Parse.{digit_from_value}
use Rattle.std.proofs.lemmas.List.{take-append-le, map-append, length-map}
use Rattle.std.proofs.Math.Nat.{pow-zero, pow-succ', mul_assoc, add-mul, zero-mul, div-add-mod', mod-lt, div-lt_iff_lt-mul, one-le-pow}
use Rattle.std.proofs.Math.Seq.{take-length, drop-append-add}
use Rattle.std.proofs.Math.ListN.{drop_of_length-le}
use Rattle.plain_lists.proofs.Each.{all_weaker, all_append}
use Rattle.input_defs.specs.line_defs.Numbers.{is_digit, number_of_digits, fraction_digits, unsigned_fixed_text, fixed_text}
use Rattle.input_defs.specs.declared.scan_defs.NumberFault.TheVariants.{NotNumber, OutOfRange}
use Rattle.input_defs.specs.scan_defs.Numbers.{Decimal, is_whole, is_minus, without_sign, with_sign, is_mark, is_decimal_point, mantissa, exponent, has_exponent, whole_part, fraction, uint_of, int_of, scaled, magnitude, fixed_value, fixed_where, fixed_of, decimal_of}
use Rattle.input_defs.specs.RightContent.{IsUnsigned, IsSigned, IsFixed}

-- ---- digits

-- the byte of a digit
abbrev pub IsDigitByte : ℕ → Type 0
IsDigitByte b = (48 ≤ b) × (b ≤ 57)

digit-bytes : (ds : List ℕ) → AllDigits 10 ds → AllByRecursion IsDigitByte ds
digit-bytes [] h = tt
digit-bytes (d ∷ ds) h = let range = digit_from_value d h.0 in ((omega (arith, range), omega (arith, range)), digit-bytes ds h.1)

value-same : (ds : List ℕ) → AllDigits 10 ds → map digit_value ds ≡ map (λ b. b - 48) ds
value-same [] h = refl
value-same (d ∷ ds) h = ap₂ (λ x xs. x ∷ xs) (let same = digit_value_digit d (digit_from_value d h.0) in omega arith) (value-same ds h.1)

-- the digits of a number
pub record Writes (n : ℕ) (ds : List ℕ) : Type 0 where
  pub some : 1 ≤ length ds
  pub digits : AllByRecursion IsDigitByte ds
  pub value : number_of_digits ds ≡ n

pub decimal-writes : (n : ℕ) → n < 2 ^ 64 → Writes n (decimal n)
decimal-writes n low = let h = decimal_is_IsNumeral n low in
    record { some = omega (arith, h.0.0); digits = digit-bytes (decimal n) h.0.1; value = ap (number_from_digits 10) (sym (value-same (decimal n) h.0.1)) ∙ sym (digits_value_is 10 (decimal n)) ∙ h.1 }

is_digit-true : (b : ℕ) → IsDigitByte b → is_digit b ≡ true
is_digit-true b h = ap₂ (λ x y. x && y) (le-leb 48 b h.0) (le-leb b 57 h.1)

all-digits : (ds : List ℕ) → AllByRecursion IsDigitByte ds → list_all is_digit ds ≡ true
all-digits [] h = refl
all-digits (d ∷ ds) h = ap₂ (λ x y. x && y) (is_digit-true d h.0) (all-digits ds h.1)

whole-digits : (ds : List ℕ) → 1 ≤ length ds → AllByRecursion IsDigitByte ds → is_whole ds ≡ true
whole-digits ds some h = ap₂ (λ x y. x && y) (le-leb 1 (length ds) some) (all-digits ds h)

-- a token that is read as a number
from-digits : (token : List ℕ) (n limit : ℕ) → is_whole token ≡ true → number_of_digits token ≡ n → n ≤ limit → {A : Type 0} → (f : ℕ → A)
    → cond (is_whole token) (cond (nat_le (number_of_digits token) limit) (Ok (f (number_of_digits token))) (Err OutOfRange)) (Err NotNumber) ≡ Ok (f n)
from-digits token n limit whole value low {A} f =
    ap (λ b. cond b (cond (nat_le (number_of_digits token) limit) (Ok (f (number_of_digits token))) (Err OutOfRange)) (Err NotNumber)) whole
    ∙ ap (λ m. cond (nat_le m limit) (Ok (f m)) (Err OutOfRange)) value
    ∙ ap (λ b. cond b (Ok (f n)) (Err OutOfRange)) (le-leb n limit low)

-- ---- whole numbers

pub uint-back : (n : ℕ) → IsUnsigned n → uint_of (decimal n) ≡ Ok n
unfolding uint_of
uint-back n low = let w = decimal-writes n (omega (arith, low)) in from-digits (decimal n) n 4294967295 (whole-digits (decimal n) w.some w.digits) w.value (omega (arith, low)) (λ m. m)

-- no sign stands before digits
no-sign : (ds : List ℕ) → AllByRecursion IsDigitByte ds → (without_sign ds ≡ ds) × (is_minus ds ≡ false)
no-sign [] h = (refl, refl)
no-sign (d ∷ ds) h =
    let minus : (d == 45) ≡ false = ne_eqb d 45 (λ e. omega (arith, h.0.0, e)) in
    let plus : (d == 43) ≡ false = ne_eqb d 43 (λ e. omega (arith, h.0.0, e)) in
    (ap₂ (λ a b. cond (a || b) ds (d ∷ ds)) plus minus, minus)

pub int-back : (z : ℤ) → IsSigned z → int_of (signed_decimal z) ≡ Ok z
unfolding int_of
int-back (pos n) range =
    let w = decimal-writes n (omega (arith, ints, range.1)) in
    let plain = no-sign (decimal n) w.digits in
    ap₂ (λ (ds : List ℕ) minus. cond (is_whole ds) (cond (nat_le (number_of_digits ds) (cond minus 2147483648 2147483647)) (Ok (with_sign minus (number_of_digits ds))) (Err OutOfRange)) (Err NotNumber)) plain.0 plain.1
    ∙ from-digits (decimal n) n 2147483647 (whole-digits (decimal n) w.some w.digits) w.value (omega (arith, ints, range.1)) (λ m. pos m)
int-back (negsuc n) range =
    let w = decimal-writes (suc n) (omega (arith, ints, range.0)) in
    from-digits (decimal (suc n)) (suc n) 2147483648 (whole-digits (decimal (suc n)) w.some w.digits) w.value (omega (arith, ints, range.0)) (λ m. neg_ℤ (pos m))

-- ---- powers and digits

pow-join : (b m n : ℕ) → b ^ m * b ^ n ≡ b ^ (m + n)
pow-join b zero n = ap (λ k. k * b ^ n) (pow-zero b) ∙ (omega arith ∙ ap (λ k. b ^ k) none)
  where
    none : n ≡ 0 + n
    none = omega arith
pow-join b (suc m) n = ap (λ k. k * b ^ n) (pow-succ' b m) ∙ mul_assoc b (b ^ m) (b ^ n) ∙ ap (λ k. b * k) (pow-join b m n) ∙ sym (pow-succ' b (m + n)) ∙ ap (λ k. b ^ k) one
  where
    one : suc (m + n) ≡ suc m + n
    one = omega arith

-- digits after a number
number-after : (n : ℕ) (ds : List ℕ) → number_from_digits_after 10 n ds ≡ n * 10 ^ length ds + number_from_digits 10 ds
number-after n [] = let one = pow-zero 10 in let same : n * 10 ^ 0 ≡ n * 1 = ap (λ k. n * k) one in omega (arith, same)
number-after n (d ∷ ds) =
    let apart = add-mul (n * 10) d (10 ^ length ds) in
    let shifted : n * 10 * 10 ^ length ds ≡ n * 10 ^ suc (length ds) = mul_assoc n 10 (10 ^ length ds) ∙ ap (λ k. n * k) (sym (pow-succ' 10 (length ds))) in
    let lead : 0 * 10 + d ≡ d = omega arith in
    let single : (0 * 10 + d) * 10 ^ length ds ≡ d * 10 ^ length ds = ap (λ k. k * 10 ^ length ds) lead in
    omega (arith, apart, shifted, single, number-after (n * 10 + d) ds, number-after (0 * 10 + d) ds)

-- two runs of digits
number-append : (xs ys : List ℕ) → number_of_digits (xs ++ ys) ≡ number_of_digits xs * 10 ^ length ys + number_of_digits ys
number-append xs ys =
    ap (number_from_digits 10) (map-append (λ b. b - 48) xs ys)
    ∙ number_after_append 10 0 (map (λ b. b - 48) xs) (map (λ b. b - 48) ys)
    ∙ number-after (number_of_digits xs) (map (λ b. b - 48) ys)
    ∙ ap (λ k. number_of_digits xs * 10 ^ k + number_of_digits ys) (length-map ys (λ b. b - 48))

-- so many digits after the point, of a number below a power of ten
record Fraction (places rest : ℕ) (ds : List ℕ) : Type 0 where
  few : length ds ≤ places
  digits : AllByRecursion IsDigitByte ds
  value : number_of_digits ds * 10 ^ (places - length ds) ≡ rest

some-power : (p : ℕ) → 0 < 10 ^ p
some-power p = let h = one-le-pow p 10 (omega arith) in omega (arith, h)

div-below : (rest p : ℕ) → rest < 10 ^ suc p → rest / 10 ^ p < 10
div-below rest p low = let as_product = pow-succ' 10 p in (div-lt_iff_lt-mul (some-power p)).1 (omega (arith, low, as_product))

fraction-more : (p rest : ℕ) (ds : List ℕ) → rest < 10 ^ suc p → Fraction p (rest % 10 ^ p) ds → Fraction (suc p) rest ((48 + rest / 10 ^ p) ∷ ds)
fraction-more p rest ds low h = record { few = omega (arith, h.few); digits = ((omega arith, omega (arith, digit)), h.digits); value = whole }
  where
    k : ℕ
    k = length ds

    f : ℕ
    f = number_of_digits ds

    q : ℕ
    q = rest / 10 ^ p

    digit : q < 10
    digit = div-below rest p low

    places : suc p - suc k ≡ p - k
    places = omega arith

    lead : 0 * 10 + (48 + q - 48) ≡ q
    lead = omega arith

    total : k + (p - k) ≡ p
    total = omega (arith, h.few)

    number : number_of_digits ((48 + q) ∷ ds) ≡ q * 10 ^ k + f
    number = number-after (0 * 10 + (48 + q - 48)) (map (λ b. b - 48) ds) ∙ ap₂ (λ a b. a * 10 ^ b + f) lead (length-map ds (λ b. b - 48))

    whole : number_of_digits ((48 + q) ∷ ds) * 10 ^ (suc p - suc k) ≡ rest
    whole = ap₂ (λ a b. a * 10 ^ b) number places ∙ add-mul (q * 10 ^ k) f (10 ^ (p - k))
        ∙ ap₂ (λ a b. a + b) (mul_assoc q (10 ^ k) (10 ^ (p - k)) ∙ ap (λ a. q * a) (pow-join 10 k (p - k) ∙ ap (λ a. 10 ^ a) total)) h.value
        ∙ div-add-mod' rest (10 ^ p)

fraction-tells : (p rest : ℕ) → rest < 10 ^ p → Fraction p rest (fraction_digits p rest)
unfolding fraction_digits
fraction-tells zero rest low = record { few = omega arith; digits = tt; value = zero-mul (10 ^ (0 - 0)) ∙ none }
  where
    none : 0 ≡ rest
    none = omega (arith, low, pow-zero 10)
fraction-tells (suc p) rest low = go (rest == 0) refl (fraction-tells p (rest % 10 ^ p) (mod-lt rest (some-power p)))
  where
    go : (b : Bool) → (rest == 0) ≡ b → Fraction p (rest % 10 ^ p) (fraction_digits p (rest % 10 ^ p)) → Fraction (suc p) rest (cond b [] ((48 + rest / 10 ^ p) ∷ fraction_digits p (rest % 10 ^ p)))
    go true e h = record { few = omega arith; digits = tt; value = zero-mul (10 ^ (suc p - 0)) ∙ sym (eqb-true rest 0 e) }
    go false e h = fraction-more p rest (fraction_digits p (rest % 10 ^ p)) low h

-- ---- what stands before and after a byte

pub none-any : (p : ℕ → Bool) (xs : List ℕ) → AllByRecursion (λ b. p b ≡ false) xs → list_any p xs ≡ false
none-any p [] h = refl
none-any p (x ∷ xs) h = ap₂ (λ a b. a || b) h.0 (none-any p xs h.1)

pub position-none : (p : ℕ → Bool) (xs rest : List ℕ) → AllByRecursion (λ b. p b ≡ false) xs → position_or_len p (xs ++ rest) ≡ length xs + position_or_len p rest
position-none p [] rest h = omega arith
position-none p (x ∷ xs) rest h = ap (λ b. cond (not b) (1 + position_or_len p (xs ++ rest)) 0) h.0 ∙ omega (arith, position-none p xs rest h.1)

-- in a list in which nothing passes
pub apart-none : (p : ℕ → Bool) (xs : List ℕ) → AllByRecursion (λ b. p b ≡ false) xs → (before_first p xs ≡ xs) × (after_first p xs ≡ [])
apart-none p xs h =
    let far : position_or_len p xs ≡ length xs = ap (position_or_len p) (sym (append-nil xs)) ∙ position-none p xs [] h ∙ omega arith in
    let past : position_or_len p xs + 1 ≡ length xs + 1 = omega (arith, far) in
    (ap (λ k. take k xs) far ∙ take-length xs, ap (λ k. drop k xs) past ∙ drop_of_length-le xs (omega arith))

-- at the first byte that passes
pub apart-at : (p : ℕ → Bool) (xs : List ℕ) (b : ℕ) (ys : List ℕ) → AllByRecursion (λ c. p c ≡ false) xs → p b ≡ true → (before_first p (xs ++ b ∷ ys) ≡ xs) × (after_first p (xs ++ b ∷ ys) ≡ ys)
apart-at p xs b ys h passes =
    let here : position_or_len p (b ∷ ys) ≡ 0 = ap (λ t. cond (not t) (1 + position_or_len p ys) 0) passes in
    let at : position_or_len p (xs ++ b ∷ ys) ≡ length xs = position-none p xs (b ∷ ys) h ∙ omega (arith, here) in
    let past : position_or_len p (xs ++ b ∷ ys) + 1 ≡ length xs + 1 = omega (arith, at) in
    (ap (λ k. take k (xs ++ b ∷ ys)) at ∙ take-append-le (length xs) xs (b ∷ ys) (omega arith) ∙ take-length xs, ap (λ k. drop k (xs ++ b ∷ ys)) past ∙ drop-append-add xs (b ∷ ys) 1)

-- ---- fixed-point numbers

not-mark : (b : ℕ) → b ≤ 57 → is_mark b ≡ false
not-mark b low = ap₂ (λ x y. x || y) (ne_eqb b 101 (λ e. omega arith)) (ne_eqb b 69 (λ e. omega arith))

not-point : (b : ℕ) → IsDigitByte b → is_decimal_point b ≡ false
not-point b h = ne_eqb b 46 (λ e. omega (arith, h.0))

-- a number as it is written: without sign, its digits before and after the point
record IsPlain (number whole rest : List ℕ) : Type 0 where
  marks : AllByRecursion (λ b. is_mark b ≡ false) number
  first : before_first is_decimal_point number ≡ whole
  second : after_first is_decimal_point number ≡ rest
  good : is_whole (whole ++ rest) ≡ true

decimal-plain : (token number whole rest : List ℕ) (minus : Bool) → without_sign token ≡ number → is_minus token ≡ minus → IsPlain number whole rest
    → decimal_of token ≡ Some (record { minus = minus; digits = whole ++ rest; exponent = pos 0 -ℤ pos (length rest) })
unfolding decimal_of
decimal-plain token number whole rest minus bare sign plain =
    (λ i. form (sign i) (wholes i) (rests i) (marked i)) ∙ ap (λ b. cond (b && true) (Some (record { minus = minus; digits = whole ++ rest; exponent = pos 0 -ℤ pos (length rest) })) None) plain.good
  where
    form : Bool → List ℕ → List ℕ → Bool → Option Decimal
    form m w r e = cond (is_whole (w ++ r) && (not e || is_whole (without_sign (exponent token))))
        (Some (record { minus = m; digits = w ++ r; exponent = (cond e (with_sign (is_minus (exponent token)) (number_of_digits (without_sign (exponent token)))) (pos 0)) -ℤ pos (length r) })) None

    body : mantissa token ≡ number
    body = ap (before_first is_mark) bare ∙ (apart-none is_mark number plain.marks).0

    wholes : whole_part token ≡ whole
    wholes = ap (before_first is_decimal_point) body ∙ plain.first

    rests : fraction token ≡ rest
    rests = ap (after_first is_decimal_point) body ∙ plain.second

    marked : has_exponent token ≡ false
    marked = ap (list_any is_mark) bare ∙ none-any is_mark number plain.marks

value-back : (x : Decimal) (n : ℕ) → magnitude x ≡ n → n ≤ 9 * 10 ^ 18 → fixed_value x ≡ Ok (with_sign x.minus n)
unfolding fixed_value
value-back x n same low =
    ap (λ m. cond (nat_le m (9 * 10 ^ 18)) (Ok (with_sign x.minus m)) (Err OutOfRange)) same
    ∙ ap (λ b. cond b (Ok (with_sign x.minus n)) (Err OutOfRange)) (le-leb n (9 * 10 ^ 18) low)

-- whole and fraction are put together again
together : (n : ℕ) (whole rest : List ℕ) → number_of_digits whole ≡ n / 10 ^ 10 → Fraction 10 (n % 10 ^ 10) rest → scaled (number_of_digits (whole ++ rest)) ((pos 0 -ℤ pos (length rest)) +ℤ pos 10) ≡ n
unfolding scaled
together n whole rest value h =
    let k = length rest in
    let power : (pos 0 -ℤ pos k) +ℤ pos 10 ≡ pos (10 - k) = omega (arith, ints, h.few) in
    let total : k + (10 - k) ≡ 10 = omega (arith, h.few) in
    ap₂ (λ m z. scaled m z) (number-append whole rest ∙ ap (λ w. w * 10 ^ k + number_of_digits rest) value) power
    ∙ add-mul (n / 10 ^ 10 * 10 ^ k) (number_of_digits rest) (10 ^ (10 - k))
    ∙ ap₂ (λ a b. a + b) (mul_assoc (n / 10 ^ 10) (10 ^ k) (10 ^ (10 - k)) ∙ ap (λ a. n / 10 ^ 10 * a) (pow-join 10 k (10 - k) ∙ ap (λ a. 10 ^ a) total)) h.value
    ∙ div-add-mod' n (10 ^ 10)

token-back : (token number whole rest : List ℕ) (minus : Bool) (n : ℕ) → without_sign token ≡ number → is_minus token ≡ minus → IsPlain number whole rest → number_of_digits whole ≡ n / 10 ^ 10 → Fraction 10 (n % 10 ^ 10) rest → n ≤ 9 * 10 ^ 18
    → fixed_of token ≡ Ok (with_sign minus n)
unfolding fixed_of
token-back token number whole rest minus n bare sign plain value h low =
    ap fixed_where (decimal-plain token number whole rest minus bare sign plain)
    ∙ value-back (record { minus = minus; digits = whole ++ rest; exponent = pos 0 -ℤ pos (length rest) }) n (together n whole rest value h) low

-- the shortest text of a number is plain
record WritesFixed (n : ℕ) (number : List ℕ) : Type 0 where
  whole : List ℕ
  rest : List ℕ
  plain : IsPlain number whole rest
  value : number_of_digits whole ≡ n / 10 ^ 10
  fraction : Fraction 10 (n % 10 ^ 10) rest
  starts : (without_sign number ≡ number) × (is_minus number ≡ false)

starts-append : (xs ys : List ℕ) → 1 ≤ length xs → AllByRecursion IsDigitByte xs → (without_sign (xs ++ ys) ≡ xs ++ ys) × (is_minus (xs ++ ys) ≡ false)
starts-append [] ys some h = absurd (omega arith)
starts-append (x ∷ xs) ys some h =
    let minus : (x == 45) ≡ false = ne_eqb x 45 (λ e. omega (arith, h.0.0, e)) in
    let plus : (x == 43) ≡ false = ne_eqb x 43 (λ e. omega (arith, h.0.0, e)) in
    (ap₂ (λ a b. cond (a || b) (xs ++ ys) (x ∷ (xs ++ ys))) plus minus, minus)

unsigned-plain : (n : ℕ) → n ≤ 9 * 10 ^ 18 → WritesFixed n (unsigned_fixed_text n)
unfolding unsigned_fixed_text
unsigned-plain n low = go (n % 10 ^ 10 == 0) refl (decimal-writes (n / 10 ^ 10) (omega (arith, low))) (fraction-tells 10 (n % 10 ^ 10) (omega arith))
  where
    w : List ℕ
    w = decimal (n / 10 ^ 10)

    f : List ℕ
    f = fraction_digits 10 (n % 10 ^ 10)

    marks : (ds : List ℕ) → AllByRecursion IsDigitByte ds → AllByRecursion (λ b. is_mark b ≡ false) ds
    marks ds h = all_weaker IsDigitByte (λ b. is_mark b ≡ false) (λ b d. not-mark b d.1) ds h

    points : (ds : List ℕ) → AllByRecursion IsDigitByte ds → AllByRecursion (λ b. is_decimal_point b ≡ false) ds
    points ds h = all_weaker IsDigitByte (λ b. is_decimal_point b ≡ false) not-point ds h

    go : (b : Bool) → (n % 10 ^ 10 == 0) ≡ b → Writes (n / 10 ^ 10) w → Fraction 10 (n % 10 ^ 10) f → WritesFixed n (w ++ cond b [] (46 ∷ f))
    go true e d h = let apart = apart-none is_decimal_point w (points w d.digits) in let none = eqb-true (n % 10 ^ 10) 0 e in record {
      whole = w;
      rest = [];
      plain = record {
        marks = all_append (λ b. is_mark b ≡ false) w [] (marks w d.digits) tt;
        first = ap (before_first is_decimal_point) (append-nil w) ∙ apart.0;
        second = ap (after_first is_decimal_point) (append-nil w) ∙ apart.1;
        good = ap is_whole (append-nil w) ∙ whole-digits w d.some d.digits;
      };
      value = d.value;
      fraction = record { few = omega arith; digits = tt; value = zero-mul (10 ^ (10 - 0)) ∙ sym none };
      starts = starts-append w [] d.some d.digits;
    }
    go false e d h = let apart = apart-at is_decimal_point w 46 f (points w d.digits) refl in record {
      whole = w;
      rest = f;
      plain = record {
        marks = all_append (λ b. is_mark b ≡ false) w (46 ∷ f) (marks w d.digits) (refl, marks f h.digits);
        first = apart.0;
        second = apart.1;
        good = whole-digits (w ++ f) (omega (arith, d.some, length-append w f)) (all_append IsDigitByte w f d.digits h.digits);
      };
      value = d.value;
      fraction = h;
      starts = starts-append w (46 ∷ f) d.some d.digits;
    }

pub fixed-back : (v : ℤ) → IsFixed v → fixed_of (fixed_text v) ≡ Ok v
unfolding fixed_text
fixed-back (pos n) low = let t = unsigned-plain n low in token-back (unsigned_fixed_text n) (unsigned_fixed_text n) t.whole t.rest false n t.starts.0 t.starts.1 t.plain t.value t.fraction low
fixed-back (negsuc n) low =
    let near : n + 1 ≤ 9 * 10 ^ 18 = omega (arith, low) in
    let t = unsigned-plain (n + 1) near in
    let one : n + 1 ≡ suc n = omega arith in
    token-back (45 ∷ unsigned_fixed_text (n + 1)) (unsigned_fixed_text (n + 1)) t.whole t.rest true (n + 1) refl refl t.plain t.value t.fraction near ∙ ap (λ m. Ok (neg_ℤ (pos m))) one

-- its bytes are above the blanks
unsigned-bytes : (n : ℕ) → n ≤ 9 * 10 ^ 18 → (1 ≤ length (unsigned_fixed_text n)) × AllByRecursion (λ b. 33 ≤ b) (unsigned_fixed_text n)
unfolding unsigned_fixed_text
unsigned-bytes n low = go (n % 10 ^ 10 == 0) (decimal-writes (n / 10 ^ 10) (omega (arith, low))) (fraction-tells 10 (n % 10 ^ 10) (omega arith))
  where
    w : List ℕ
    w = decimal (n / 10 ^ 10)

    f : List ℕ
    f = fraction_digits 10 (n % 10 ^ 10)

    high : (ds : List ℕ) → AllByRecursion IsDigitByte ds → AllByRecursion (λ b. 33 ≤ b) ds
    high ds h = all_weaker IsDigitByte (λ b. 33 ≤ b) (λ b d. omega (arith, d.0)) ds h

    go : (b : Bool) → Writes (n / 10 ^ 10) w → Fraction 10 (n % 10 ^ 10) f → (1 ≤ length (w ++ cond b [] (46 ∷ f))) × AllByRecursion (λ b. 33 ≤ b) (w ++ cond b [] (46 ∷ f))
    go true d h = (omega (arith, d.some, length-append w []), all_append (λ b. 33 ≤ b) w [] (high w d.digits) tt)
    go false d h = (omega (arith, d.some, length-append w (46 ∷ f)), all_append (λ b. 33 ≤ b) w (46 ∷ f) (high w d.digits) (omega arith, high f h.digits))

pub fixed-bytes : (v : ℤ) → IsFixed v → (1 ≤ length (fixed_text v)) × AllByRecursion (λ b. 33 ≤ b) (fixed_text v)
unfolding fixed_text
fixed-bytes (pos n) low = unsigned-bytes n low
fixed-bytes (negsuc n) low = let h = unsigned-bytes (n + 1) (omega (arith, low)) in (omega (arith, h.0), (omega arith, h.1))
