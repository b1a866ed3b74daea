-- The parts of a fixed-point number as they are read.
use Rattle.std.specs.Prelude.{◌≡◌, ℕ, ◌+◌, ◌-◌, ◌^◌, min, Bool, true, false, if◌then◌else◌, List, drop, position, Option, Some, None, option_map}
use Rattle.input_defs.specs.line_defs.Numbers.{number_of_digits}
use Rattle.input_defs.specs.scan_defs.Numbers.{is_whole, is_minus, without_sign, is_mark, is_fixed, whole_part, fraction}
use Rattle.scan.specs.declared.parts.Power.{Power}
use Rattle.scan.specs.declared.parts.Parts.{Parts}

-- what stands after the first byte that passes, where there is one
abbrev pub text_after_first : (ℕ → Bool) → List ℕ → Option (List ℕ)
text_after_first test bytes = option_map (λ place. drop (place + 1) bytes) (position test bytes)

-- the power of ten after `e`, where one is written there; 0 without an `e`
abbrev pub power_read : Option (List ℕ) → Option Power
power_read None = Some (record { minus = false; size = 0 })
power_read (Some text) = if is_whole (without_sign text) then Some (record { minus = is_minus text; size = min (number_of_digits (without_sign text)) (2 ^ 64 - 1) }) else None

pub record HasParts (token : List ℕ) (parts : Parts) : Type 0 where
  pub fixed : is_fixed token ≡ true
  pub minus : parts.minus ≡ is_minus token
  pub whole : parts.whole.now ≡ whole_part token
  pub fraction : parts.fraction.now ≡ fraction token
  pub power : Some parts.power ≡ power_read (text_after_first is_mark (without_sign token))
