use Rattle.std.proofs.Common.{◌≡◌, ◌++◌, ◌^◌, ◌<◌, length, take}
use Rattle.input_defs.specs.line_defs.Numbers.{fraction_digits}
use Rattle.scan.proofs.print.append_fraction.Given as goal

-- what is written, and the digits that are left, make the text
abbrev pub invariant-loop-place : goal.invariant-loop-place
invariant-loop-place l = record {
  fits : l.rest < 10 ^ l.place;
  text : l.to.items ++ fraction_digits l.place l.rest ≡ l.fn.to.items ++ fraction_digits 10 l.fn.rest;
  front : take (length l.fn.to.items) l.to.items ≡ l.fn.to.items;
}
