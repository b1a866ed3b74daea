-- Decimal digits cut off at a place and rounded.
use Rattle.std.specs.Prelude.{ℕ, ◌+◌, ◌-◌, ◌*◌, ◌^◌, min, nat_le, if◌then◌else◌, List, ◌++◌, length, take, get_or, Option, Some, None}
use Rattle.input_defs.specs.line_defs.Numbers.{number_of_digits}
use Rattle.scan.specs.declared.parts.Power.{Power}

-- at most the greatest absolute value
abbrev pub in_range : ℕ → Option ℕ
in_range n = if nat_le n (9 * 10 ^ 18) then Some n else None

-- The first `keep` digits as a number, with zeros after them where they are fewer; 1 more where the digit after them is
-- 5 or more.
unfoldable pub kept_value : List ℕ → ℕ → ℕ
kept_value digits keep = number_of_digits (take keep digits) * 10 ^ (keep - length digits) + (if nat_le 53 (get_or digits keep 48) then 1 else 0)

-- how many digits a number keeps in 10^-10, of which `whole` stand before the point
abbrev pub kept_places : ℕ → Power → Option ℕ
kept_places whole power =
    if power.minus
    then (if nat_le power.size (whole + 10) then Some (whole + 10 - power.size) else None)
    else Some (min (whole + 10 + power.size) (2 ^ 64 - 1))

abbrev pub magnitude_where : List ℕ → Option ℕ → Option ℕ
magnitude_where digits None = Some 0
magnitude_where digits (Some keep) = in_range (kept_value digits keep)

-- the value in 10^-10 without its sign, where it is in range
unfoldable pub magnitude_in_range : List ℕ → List ℕ → Power → Option ℕ
magnitude_in_range whole fraction power = magnitude_where (whole ++ fraction) (kept_places (length whole) power)
