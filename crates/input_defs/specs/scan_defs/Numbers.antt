-- Whole numbers and fixed-point numbers as mesh files write them. A fixed-point value is a whole multiple of 10^-10.
use Rattle.std.specs.Prelude.{ℕ, ◌+◌, ◌*◌, ◌/◌, ◌^◌, ◌==◌, ◌&&◌, ◌||◌, Bool, not, nat_le, if◌then◌else◌, List, [], ◌∷◌, ◌++◌, length, get_or, ℤ, pos, negsuc, ◌+ℤ◌, ◌-ℤ◌, neg_ℤ, Option, Some, None, Result, Ok, Err}
use Rattle.std.specs.List.{list_all, list_any, before_first, after_first}
use Rattle.input_defs.specs.line_defs.Numbers.{is_digit, number_of_digits}
use Rattle.input_defs.specs.declared.scan_defs.NumberFault.{NumberFault}
use Rattle.input_defs.specs.declared.scan_defs.NumberFault.TheVariants.{NotNumber, OutOfRange}

-- ---- whole numbers

-- one or more decimal digits
abbrev pub is_whole : List ℕ → Bool
is_whole token = nat_le 1 (length token) && list_all is_digit token

-- `+` or `-`
abbrev pub is_sign : ℕ → Bool
is_sign b = (b == 43) || (b == 45)

abbrev pub is_minus : List ℕ → Bool
is_minus token = get_or token 0 0 == 45

-- without one sign in front
abbrev pub without_sign : List ℕ → List ℕ
without_sign [] = []
without_sign (b ∷ bs) = if is_sign b then bs else (b ∷ bs)

abbrev pub with_sign : Bool → ℕ → ℤ
with_sign minus n = if minus then neg_ℤ (pos n) else pos n

-- an unsigned number, of 32 bits
unfoldable pub uint_of : List ℕ → Result ℕ NumberFault
uint_of token =
    if is_whole token
    then (if nat_le (number_of_digits token) 4294967295 then Ok (number_of_digits token) else Err OutOfRange)
    else Err NotNumber

-- a signed number, of 32 bits
unfoldable pub int_of : List ℕ → Result ℤ NumberFault
int_of token =
    if is_whole (without_sign token)
    then (if nat_le (number_of_digits (without_sign token)) (if is_minus token then 2147483648 else 2147483647)
    then Ok (with_sign (is_minus token) (number_of_digits (without_sign token)))
    else Err OutOfRange)
    else Err NotNumber

-- ---- fixed-point numbers

-- The parts of a token: its sign, its digits with the point left out, and the power of ten by which the number that they
-- write is multiplied.
pub record Decimal : Type 0 where
  pub minus : Bool
  pub digits : List ℕ
  pub exponent : ℤ

-- `e` or `E`
abbrev pub is_mark : ℕ → Bool
is_mark b = (b == 101) || (b == 69)

abbrev pub is_decimal_point : ℕ → Bool
is_decimal_point b = b == 46

-- before the exponent, without the sign; and the exponent, with its sign
abbrev pub mantissa : List ℕ → List ℕ
mantissa token = before_first is_mark (without_sign token)

abbrev pub exponent : List ℕ → List ℕ
exponent token = after_first is_mark (without_sign token)

abbrev pub has_exponent : List ℕ → Bool
has_exponent token = list_any is_mark (without_sign token)

-- the digits before the point, and those after it
abbrev pub whole_part : List ℕ → List ℕ
whole_part token = before_first is_decimal_point (mantissa token)

abbrev pub fraction : List ℕ → List ℕ
fraction token = after_first is_decimal_point (mantissa token)

-- An optional sign, then digits with at most one point among, before or after them and at least one digit, then
-- optionally `e` or `E`, an optional sign and at least one digit.
abbrev pub is_fixed : List ℕ → Bool
is_fixed token = is_whole (whole_part token ++ fraction token) && (not (has_exponent token) || is_whole (without_sign (exponent token)))

-- the number after `e`, or 0
abbrev pub power : List ℕ → ℤ
power token = if has_exponent token then with_sign (is_minus (exponent token)) (number_of_digits (without_sign (exponent token))) else pos 0

unfoldable pub decimal_of : List ℕ → Option Decimal
decimal_of token =
    if is_fixed token
    then Some (record { minus = is_minus token; digits = whole_part token ++ fraction token; exponent = power token -ℤ pos (length (fraction token)) })
    else None

-- m * 10^k, where k is below 0 rounded to a whole number, half away from 0
unfoldable pub scaled : ℕ → ℤ → ℕ
scaled m (pos k) = m * 10 ^ k
scaled m (negsuc k) = (2 * m + 10 ^ (k + 1)) / (2 * 10 ^ (k + 1))

-- the value in 10^-10, without its sign
abbrev pub magnitude : Decimal → ℕ
magnitude x = scaled (number_of_digits x.digits) (x.exponent +ℤ pos 10)

-- at most 900,000,000
unfoldable pub fixed_value : Decimal → Result ℤ NumberFault
fixed_value x = if nat_le (magnitude x) (9 * 10 ^ 18) then Ok (with_sign x.minus (magnitude x)) else Err OutOfRange

abbrev pub fixed_where : Option Decimal → Result ℤ NumberFault
fixed_where None = Err NotNumber
fixed_where (Some x) = fixed_value x

-- a fixed-point number
unfoldable pub fixed_of : List ℕ → Result ℤ NumberFault
fixed_of token = fixed_where (decimal_of token)
