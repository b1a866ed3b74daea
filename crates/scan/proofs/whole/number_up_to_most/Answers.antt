use Rattle.std.proofs.Common.{◌-◌, ◌^◌, ◌≤◌, get_or, length, refl, sym, ◌∙◌, arith}
use Rattle.std.proofs.lemmas.Bool.Decides.{nat_tests}
use Rattle.scan.proofs.Digits.{capped_more, capped_all, capped_some, all_more, all_all}
use Rattle.scan.proofs.whole.number_up_to_most.Goals as goal

pub loop-digit-preserved : goal.loop-digit-preserved
loop-digit-preserved c =
    let ds = c.args.digits.now in
    let i = c.loop-digit.digit-index in
    record {
      number = capped_more (2 ^ 64 - 1) c.loop-digit.number c.saturating_add-number.result (get_or ds i 0) ds i c.loop-digit-test.true refl (omega (arith, c.saturating_add-number.ensures, c.saturating_mul.ensures, c.from.ensures)) ∙ c.loop-digit.invariant.number;
      bound = omega arith;
      digits = all_more ds i (get_or ds i 0) c.loop-digit-test.true refl (sym c.is_digit.ensures ∙ c.if-not-is_digit.false) ∙ c.loop-digit.invariant.digits;
    }

pub returns : goal.returns
returns c =
    let ds = c.args.digits.now in
    let i = c.loop-digit.digit-index in
    let some : 1 ≤ length ds = grind (arith, nat_tests) in
    capped_some ds c.loop-digit.number some (sym c.loop-digit.invariant.digits ∙ all_all ds i c.loop-digit-test.false)
    (capped_all (2 ^ 64 - 1) c.loop-digit.number ds i c.loop-digit-test.false (omega arith) ∙ c.loop-digit.invariant.number)
