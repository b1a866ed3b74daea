use Rattle.std.proofs.Common.{arith}
use Rattle.scan.proofs.Fractions.{fraction-step, fraction-done, fraction-end, front-append}
use Rattle.scan.proofs.print.append_fraction.Goals as goal

pub loop-place-preserved : goal.loop-place-preserved
loop-place-preserved c =
    let s = fraction-step c.loop-place.to.items c.push.new.self.items _ c.loop-place.place c.loop-place.rest c.pow-unit.result (omega arith) c.if-rest-eq0.false c.loop-place.invariant.fits c.pow-unit.ensures c.in_ok-push.ensures.items c.loop-place.invariant.text in
    record {
      fits = s.0;
      text = s.1;
      front = rw c.in_ok-push.ensures.items (front-append c.args.to.now.items c.loop-place.to.items _ c.loop-place.invariant.front);
    }

pub returns-then-rest-eq0-clause-text : goal.returns-then-rest-eq0-clause-text
returns-then-rest-eq0-clause-text c = fraction-done _ _ c.loop-place.place c.loop-place.rest (omega arith) c.loop-place.invariant.text

pub returns-clause-text : goal.returns-clause-text
returns-clause-text c = fraction-end _ _ c.loop-place.place c.loop-place.rest (omega arith) c.loop-place.invariant.text
