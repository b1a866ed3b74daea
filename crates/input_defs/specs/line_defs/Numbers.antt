-- Numbers in texts, and the texts of numbers. A fixed-point value is a whole multiple of 10^-10.
use Rattle.std.specs.Prelude.{ℕ, zero, suc, ◌+◌, ◌-◌, ◌*◌, ◌/◌, ◌%◌, ◌^◌, Bool, not, ◌&&◌, ◌||◌, ◌==◌, if◌then◌else◌, nat_le, List, [], ◌∷◌, ◌++◌, length, map, get_or, ℤ, pos, negsuc, neg_ℤ, Option, Some, None, option_map, option_and_then, decimal}
use Rattle.std.specs.List.{list_all}
use Rattle.std.specs.Int.Digits.{number_from_digits}

abbrev pub is_digit : ℕ → Bool
is_digit b = nat_le 48 b && nat_le b 57

-- one to nine digits, the first of them no zero unless it is the only one
abbrev pub is_numeral : List ℕ → Bool
is_numeral token = (nat_le 1 (length token) && nat_le (length token) 9) && (list_all is_digit token && ((length token == 1) || not (get_or token 0 0 == 48)))

-- the number that digits write
abbrev pub number_of_digits : List ℕ → ℕ
number_of_digits token = number_from_digits 10 (map (λ b. b - 48) token)

unfoldable pub numeral : List ℕ → Option ℕ
numeral token = if is_numeral token then Some (number_of_digits token) else None

-- a whole number of at most 900,000,000 as a fixed-point value
abbrev pub whole_fixed : List ℕ → Option ℤ
whole_fixed token = option_and_then (λ n. if nat_le n 900000000 then Some (pos (n * 10 ^ 10)) else None) (numeral token)

-- the same, with or without a minus in front
unfoldable pub coordinate : List ℕ → Option ℤ
coordinate [] = None
coordinate (b ∷ bs) = if b == 45 then option_map neg_ℤ (whole_fixed bs) else whole_fixed (b ∷ bs)

-- the digits of rest * 10^-places after the point, without zeros at the end
unfoldable pub fraction_digits : ℕ → ℕ → List ℕ
fraction_digits zero rest = []
fraction_digits (suc places) rest = if rest == 0 then [] else (48 + rest / 10 ^ places) ∷ fraction_digits places (rest % 10 ^ places)

-- the shortest decimal text of n * 10^-10: the whole part and, where the rest is not 0, a point and its digits
unfoldable pub unsigned_fixed_text : ℕ → List ℕ
unsigned_fixed_text n = decimal (n / 10 ^ 10) ++ (if n % 10 ^ 10 == 0 then [] else 46 ∷ fraction_digits 10 (n % 10 ^ 10))

-- the shortest decimal text of a fixed-point value
unfoldable pub fixed_text : ℤ → List ℕ
fixed_text (pos n) = unsigned_fixed_text n
fixed_text (negsuc n) = 45 ∷ unsigned_fixed_text (n + 1)
