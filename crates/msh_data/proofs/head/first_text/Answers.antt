use Rattle.std.proofs.Common.{◌≡◌, ◌-◌, [], suc, arith}
use Rattle.std.proofs.lemmas.Result.{err_from_is_err_and}
use Rattle.input_defs.specs.Bodies.{quoted}
use Rattle.input_laws.proofs.reading_laws.Going.{others-fault}
use Rattle.msh_data.proofs.head.first_text.Goals as goal

pub returns-in_err-pass_texts : goal.returns-in_err-pass_texts
returns-in_err-pass_texts c =
    let p = err_from_is_err_and c.from_residual-in_err-pass_texts.result c.from_residual-in_err-pass_texts.ensures.1 in
    let one : c.args.count ≡ suc (c.args.count - 1) = omega arith in
    rw (p.1, p.2) (others-fault [] quoted _ _ one c.in_ok-quoted.ensures c.in_err-pass_texts.ensures)
