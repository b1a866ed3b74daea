use Rattle.scan.proofs.Rounds.{all-take, kept-none-whole, kept-none-fraction, kept-none-zeros, kept-some, kept-down, kept-up, kept-above}
use Rattle.scan.proofs.rounding.kept_value.Goals as goal

pub with_digits-requires-clause-digits : goal.with_digits-requires-clause-digits
with_digits-requires-clause-digits c = rw c.first_digits.ensures (all-take c.args.whole.now c.args.keep c.requires.whole)

pub with_digits-requires-2-clause-digits : goal.with_digits-requires-2-clause-digits
with_digits-requires-2-clause-digits c = rw c.first_digits-2.ensures (all-take c.args.fraction.now c.saturating_sub.result c.requires.fraction)

pub returns-in_err-kept : goal.returns-in_err-kept
returns-in_err-kept c =
    let a = rw (c.in_err-kept.was, c.first_digits.ensures) at c.with_digits.ensures in
    rw c.from_residual.ensures (kept-none-whole c.args.whole.now c.args.fraction.now c.args.keep a)

pub returns-in_err-kept-2 : goal.returns-in_err-kept-2
returns-in_err-kept-2 c =
    let a = rw (c.in_ok-kept.was, c.first_digits.ensures) at c.with_digits.ensures in
    let b = rw (c.in_err-kept-2.was, c.first_digits-2.ensures, c.saturating_sub.ensures) at c.with_digits-2.ensures in
    rw c.from_residual-in_err-kept-2.ensures (kept-none-fraction c.args.whole.now c.args.fraction.now c.args.keep c.in_ok-kept.kept a b)

pub returns-in_err-kept-3 : goal.returns-in_err-kept-3
returns-in_err-kept-3 c =
    let a = rw (c.in_ok-kept.was, c.first_digits.ensures) at c.with_digits.ensures in
    let b = rw (c.in_ok-kept-2.was, c.first_digits-2.ensures, c.saturating_sub.ensures) at c.with_digits-2.ensures in
    let z = rw (c.in_err-kept-3.was, c.saturating_sub-2.ensures) at c.with_zeros.ensures in
    rw c.from_residual-in_err-kept-3.ensures (kept-none-zeros c.args.whole.now c.args.fraction.now c.args.keep c.in_ok-kept.kept c.in_ok-kept-2.kept a b z)

pub returns-then-digit_at-lt53 : goal.returns-then-digit_at-lt53
returns-then-digit_at-lt53 c =
    let a = rw (c.in_ok-kept.was, c.first_digits.ensures) at c.with_digits.ensures in
    let b = rw (c.in_ok-kept-2.was, c.first_digits-2.ensures, c.saturating_sub.ensures) at c.with_digits-2.ensures in
    let z = rw (c.in_ok-kept-3.was, c.saturating_sub-2.ensures) at c.with_zeros.ensures in
    kept-down _ c.in_ok-kept-3.kept _ (kept-some c.args.whole.now c.args.fraction.now c.args.keep c.in_ok-kept.kept c.in_ok-kept-2.kept c.in_ok-kept-3.kept a b z) (rw c.digit_at.ensures at c.if-digit_at-lt53.true)

pub returns-then-kept-lt-MOST : goal.returns-then-kept-lt-MOST
returns-then-kept-lt-MOST c =
    let a = rw (c.in_ok-kept.was, c.first_digits.ensures) at c.with_digits.ensures in
    let b = rw (c.in_ok-kept-2.was, c.first_digits-2.ensures, c.saturating_sub.ensures) at c.with_digits-2.ensures in
    let z = rw (c.in_ok-kept-3.was, c.saturating_sub-2.ensures) at c.with_zeros.ensures in
    kept-up _ c.in_ok-kept-3.kept _ (kept-some c.args.whole.now c.args.fraction.now c.args.keep c.in_ok-kept.kept c.in_ok-kept-2.kept c.in_ok-kept-3.kept a b z) (rw c.digit_at.ensures at c.if-digit_at-lt53.false) c.if-kept-lt-MOST.true

pub returns-else-kept-lt-MOST : goal.returns-else-kept-lt-MOST
returns-else-kept-lt-MOST c =
    let a = rw (c.in_ok-kept.was, c.first_digits.ensures) at c.with_digits.ensures in
    let b = rw (c.in_ok-kept-2.was, c.first_digits-2.ensures, c.saturating_sub.ensures) at c.with_digits-2.ensures in
    let z = rw (c.in_ok-kept-3.was, c.saturating_sub-2.ensures) at c.with_zeros.ensures in
    kept-above _ c.in_ok-kept-3.kept _ (kept-some c.args.whole.now c.args.fraction.now c.args.keep c.in_ok-kept.kept c.in_ok-kept-2.kept c.in_ok-kept-3.kept a b z) (rw c.digit_at.ensures at c.if-digit_at-lt53.false) c.if-kept-lt-MOST.false
