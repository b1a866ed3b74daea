use Rattle.std.proofs.Common.{◌≡◌, ◌≤◌, ◌+◌, ◌-◌, [], ◌∷◌, suc, ap, sym, ◌∙◌, drop, length, arith}
use Rattle.std.proofs.lemmas.Result.{err_from_is_err_and}
use Rattle.std.proofs.lemmas.List.{drop-append-le, take-append-le, take_rest, length-append}
use Rattle.input_defs.specs.Sections.{corner}
use Rattle.msh_reader.specs.NumberSets.{numbers_of}
use Rattle.msh_reader.proofs.Going.{goes-same, onto-step, onto-fault, onto-done}
use Rattle.msh_reader.proofs.elements.append_corners.Goals as goal

pub loop-preserved : goal.loop-preserved
loop-preserved c =
    let one : c.args.count - c.loop.counter ≡ suc (c.args.count - (c.loop.counter + 1)) = omega arith in
    let long : c.len-start.result ≤ length c.loop.corners.items = c.loop.invariant.long in
    let more = length-append c.loop.corners.items (c.in_ok-number.number ∷ []) in
    rw c.in_ok-push.ensures.items (record {
      left = rw drop-append-le (onto-step (corner (numbers_of c.args.known.now)) (drop c.len-start.result c.loop.corners.items) _ _ one c.loop.invariant.left (goes-same (ap (corner (numbers_of c.args.known.now)) (ap (drop c.len-start.result) (sym c.deref.ensures.value) ∙ sym (take_rest c.deref.result.now c.len-start.result))) c.in_ok-number.ensures));
      start = c.loop.invariant.start;
      long = omega (arith, more, long);
      front = rw take-append-le c.loop.invariant.front;
    })

pub returns-in_err-number-clause-goes : goal.returns-in_err-number-clause-goes
returns-in_err-number-clause-goes c =
    let p = err_from_is_err_and c.from_residual.result c.from_residual.ensures.1 in
    let one : c.args.count - c.loop.counter ≡ suc (c.args.count - (c.loop.counter + 1)) = omega arith in
    rw (p.1, p.2) (onto-fault (corner (numbers_of c.args.known.now)) (drop c.len-start.result c.loop.corners.items) _ _ one c.loop.invariant.left (goes-same (ap (corner (numbers_of c.args.known.now)) (ap (drop c.len-start.result) (sym c.deref.ensures.value) ∙ sym (take_rest c.deref.result.now c.len-start.result))) c.in_err-number.ensures))

pub returns-clause-goes : goal.returns-clause-goes
returns-clause-goes c =
    let none : c.args.count - c.loop.counter ≡ 0 = omega arith in
    rw (← c.loop.invariant.start) (onto-done (corner (numbers_of c.args.known.now)) (drop c.len-start.result c.loop.corners.items) _ none c.loop.invariant.left)
