use Rattle.std.proofs.lemmas.Result.{err_from_is_err_and}
use Rattle.msh_reader.proofs.Going.{goes-end, goes-no_end}
use Rattle.msh_reader.proofs.numbers.end_of_body.Goals as goal

pub returns-in_err-end_of_body : goal.returns-in_err-end_of_body
returns-in_err-end_of_body c =
    let p = err_from_is_err_and c.from_residual.result c.from_residual.ensures.1 in
    rw (p.1, p.2) (goes-no_end c.in_err-end_of_body.ensures.goes)

pub returns : goal.returns
returns c = goes-end c.in_ok-end_of_body.ensures.goes
