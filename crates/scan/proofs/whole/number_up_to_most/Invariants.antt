use Rattle.std.proofs.Common.{◌≡◌, ◌-◌, ◌^◌, ◌<◌, min, drop}
use Rattle.std.specs.List.{list_all}
use Rattle.input_defs.specs.line_defs.Numbers.{is_digit}
use Rattle.scan.proofs.Digits.{after}
use Rattle.scan.proofs.whole.number_up_to_most.Given as goal

-- the number so far, with the digits that are left, makes the whole number
abbrev pub invariant-loop-digit : goal.invariant-loop-digit
invariant-loop-digit l = record {
  number : min (after l.number (drop l.digit-index l.digits)) (2 ^ 64 - 1) ≡ min (after 0 l.digits) (2 ^ 64 - 1);
  bound : l.number < 2 ^ 64;
  digits : list_all is_digit (drop l.digit-index l.digits) ≡ list_all is_digit l.digits;
}
