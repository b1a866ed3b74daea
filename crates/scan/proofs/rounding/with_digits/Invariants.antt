use Rattle.std.proofs.Common.{◌≡◌, ◌+◌, ◌*◌, ◌^◌, ◌≤◌, drop}
use Rattle.scan.proofs.Digits.{after}
use Rattle.scan.proofs.rounding.with_digits.Given as goal

abbrev pub invariant-loop-digit : goal.invariant-loop-digit
invariant-loop-digit l = record {
  value : after l.number (drop l.digit-index l.digits) ≡ after l.initial.number l.digits;
  bound : l.number ≤ 9 * 10 ^ 18 + 9;
}
