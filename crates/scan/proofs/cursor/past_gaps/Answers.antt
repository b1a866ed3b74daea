use Rattle.std.proofs.Common.{sym, ◌∙◌, arith}
use Rattle.scan.proofs.Places.{at-newline, at-blank, ahead-newline, ahead-blank, number-le}
use Rattle.scan.proofs.Quoting.{quoted-newline, quoted-blank}
use Rattle.scan.proofs.cursor.past_gaps.Goals as goal

pub overflow_add-at : goal.overflow_add-at
overflow_add-at c = let n = number-le c.args.bytes.now c.loop-at.at.place in omega (arith, n, c.loop-at.invariant.at.line)

pub loop-at-preserved-then-is_newline : goal.loop-at-preserved-then-is_newline
loop-at-preserved-then-is_newline c =
    let is = sym c.is_newline.ensures ∙ c.if-is_newline.true in
    record {
      at = at-newline c.args.bytes.now c.loop-at.at c.loop-at.invariant.at c.loop-at-test.true is;
      goes_on = omega arith;
      quoted = quoted-newline c.args.bytes.now c.loop-at.at.place c.loop-at-test.true is ∙ c.loop-at.invariant.quoted;
      ahead = ahead-newline c.args.bytes.now c.loop-at.at.place c.loop-at-test.true is ∙ c.loop-at.invariant.ahead;
    }

pub loop-at-preserved : goal.loop-at-preserved
loop-at-preserved c =
    let other = sym c.is_newline.ensures ∙ c.if-is_newline.false in
    let is = sym c.is_blank.ensures ∙ c.if-is_blank.true in
    record {
      at = at-blank c.args.bytes.now c.loop-at.at c.loop-at.invariant.at c.loop-at-test.true other is;
      goes_on = omega arith;
      quoted = quoted-blank c.args.bytes.now c.loop-at.at.place c.loop-at-test.true other is ∙ c.loop-at.invariant.quoted;
      ahead = ahead-blank c.args.bytes.now c.loop-at.at.place c.loop-at-test.true other is ∙ c.loop-at.invariant.ahead;
    }
