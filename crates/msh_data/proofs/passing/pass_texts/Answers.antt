use Rattle.std.proofs.Common.{◌≡◌, ◌+◌, ◌-◌, suc, arith}
use Rattle.std.proofs.lemmas.Result.{err_from_is_err_and}
use Rattle.input_defs.specs.Bodies.{many, quoted}
use Rattle.input_laws.specs.reading_laws.Going.{passed}
use Rattle.input_laws.proofs.reading_laws.Going.{resumes-start, pass-step, pass-fault, pass-done}
use Rattle.msh_data.proofs.passing.pass_texts.Goals as goal

pub loop-init : goal.loop-init
loop-init c = let whole : c.args.count - 0 ≡ c.args.count = omega arith in rw whole (resumes-start (passed (many c.args.count quoted)) c.args.scan.now)

pub loop-preserved : goal.loop-preserved
loop-preserved c =
    let one : c.args.count - c.loop.counter ≡ suc (c.args.count - (c.loop.counter + 1)) = omega arith in
    pass-step quoted _ _ one c.loop.invariant c.in_ok-quoted.ensures

pub returns : goal.returns
returns c = let none : c.args.count - c.loop.counter ≡ 0 = omega arith in pass-done quoted _ none c.loop.invariant

pub returns-in_err-quoted : goal.returns-in_err-quoted
returns-in_err-quoted c =
    let p = err_from_is_err_and c.from_residual.result c.from_residual.ensures.1 in
    let one : c.args.count - c.loop.counter ≡ suc (c.args.count - (c.loop.counter + 1)) = omega arith in
    rw (p.1, p.2) (pass-fault quoted _ _ one c.loop.invariant c.in_err-quoted.ensures)
