use Rattle.std.proofs.Common.{◌+◌, ◌-◌, ◌*◌, get_or, drop, ◌∙◌, sym, arith}
use Rattle.scan.proofs.Digits.{after_more, after_all, after-ge, digit_bounds}
use Rattle.scan.proofs.Rounds.{range-none, range-some}
use Rattle.scan.proofs.rounding.with_digits.Goals as goal

pub returns-then-number : goal.returns-then-number
returns-then-number c =
    let e = after_more c.loop-digit.number c.args.digits.now c.loop-digit.digit-index c.loop-digit-test.true in
    let g = after-ge (c.loop-digit.number * 10 + (get_or c.args.digits.now c.loop-digit.digit-index 0 - 48)) (drop (c.loop-digit.digit-index + 1) c.args.digits.now) in
    range-none _ (omega (arith, e, g, c.loop-digit.invariant.value))

pub loop-digit-preserved : goal.loop-digit-preserved
loop-digit-preserved c =
    let e = after_more c.loop-digit.number c.args.digits.now c.loop-digit.digit-index c.loop-digit-test.true in
    let d = digit_bounds c.args.digits.now c.loop-digit.digit-index c.requires.digits c.loop-digit-test.true in
    record {
      value = rw c.from.ensures (sym e ∙ c.loop-digit.invariant.value);
      bound = omega arith;
    }

pub returns-then-number-le-MOST : goal.returns-then-number-le-MOST
returns-then-number-le-MOST c =
    let e = after_all c.loop-digit.number c.args.digits.now c.loop-digit.digit-index c.loop-digit-test.false in
    range-some _ c.loop-digit.number (sym c.loop-digit.invariant.value ∙ e) c.if-number-le-MOST.true

pub returns-else-number-le-MOST : goal.returns-else-number-le-MOST
returns-else-number-le-MOST c =
    let e = after_all c.loop-digit.number c.args.digits.now c.loop-digit.digit-index c.loop-digit-test.false in
    range-none _ (omega (arith, e, c.loop-digit.invariant.value))
