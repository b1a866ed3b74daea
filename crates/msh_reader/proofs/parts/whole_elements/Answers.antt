use Rattle.std.proofs.lemmas.Result.{err_from_is_err_and}
use Rattle.msh_reader.proofs.Going.{goes-then, goes-fault, goes-give}
use Rattle.msh_reader.proofs.parts.whole_elements.Goals as goal

pub returns-in_err-end_of_body : goal.returns-in_err-end_of_body
returns-in_err-end_of_body c =
    let p = err_from_is_err_and c.from_residual-in_err-end_of_body.result c.from_residual-in_err-end_of_body.ensures.1 in
    rw (p.1, p.2) (goes-then _ c.in_ok-elements.ensures (goes-fault _ c.in_err-end_of_body.ensures))

pub returns : goal.returns
returns c = goes-then _ c.in_ok-elements.ensures (goes-then _ c.in_ok-end_of_body.ensures (goes-give _ _))
