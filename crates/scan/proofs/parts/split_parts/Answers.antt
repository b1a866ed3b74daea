use Rattle.std.proofs.Common.{sym, ap, ◌∙◌}
use Rattle.std.specs.List.{before_first, after_first}
use Rattle.input_defs.specs.scan_defs.Numbers.{is_mark, is_decimal_point}
use Rattle.scan.specs.Parts.{text_after_first, power_read}
use Rattle.scan.proofs.Splits.{not-digits, not-power, has-parts}
use Rattle.scan.proofs.parts.split_parts.Goals as goal

pub returns-in_default : goal.returns-in_default
returns-in_default c =
    let u = c.split_sign-minus.ensures.rest in
    let m = c.split_mark.ensures.before ∙ ap (before_first is_mark) u in
    let w = c.split_point.ensures.before ∙ ap (before_first is_decimal_point) m in
    let f = c.split_point.ensures.after ∙ ap (after_first is_decimal_point) m in
    let p = sym c.in_default.is ∙ c.read_power.ensures ∙ ap power_read (c.split_mark.ensures.after ∙ ap (text_after_first is_mark) u) in
    not-power c.args.token.now (rw (w, f) at (sym c.are_some_digits.ensures ∙ c.if-not-are_some_digits.false)) p

pub returns-then-not-are_some_digits : goal.returns-then-not-are_some_digits
returns-then-not-are_some_digits c =
    let u = c.split_sign-minus.ensures.rest in
    let m = c.split_mark.ensures.before ∙ ap (before_first is_mark) u in
    let w = c.split_point.ensures.before ∙ ap (before_first is_decimal_point) m in
    let f = c.split_point.ensures.after ∙ ap (after_first is_decimal_point) m in
    not-digits c.args.token.now c.split_point.result.0.now c.split_point.result.1.now w f (sym c.are_some_digits.ensures ∙ c.if-not-are_some_digits.true)

pub returns : goal.returns
returns c =
    let u = c.split_sign-minus.ensures.rest in
    let m = c.split_mark.ensures.before ∙ ap (before_first is_mark) u in
    let w = c.split_point.ensures.before ∙ ap (before_first is_decimal_point) m in
    let f = c.split_point.ensures.after ∙ ap (after_first is_decimal_point) m in
    let p = sym c.in-Some.is ∙ c.read_power.ensures ∙ ap power_read (c.split_mark.ensures.after ∙ ap (text_after_first is_mark) u) in
    has-parts c.args.token.now (record { minus = c.split_sign-minus.result.0; whole = c.split_point.result.0; fraction = c.split_point.result.1; power = c.in-Some.power })
    c.split_sign-minus.ensures.minus w f (sym c.are_some_digits.ensures ∙ c.if-not-are_some_digits.false) p
