use Rattle.std.proofs.lemmas.Result.{err_from_is_err_and}
use Rattle.input_defs.specs.scan_defs.Numbers.{uint_of}
use Rattle.input_laws.proofs.reading_laws.Going.{goes-then, goes-fault, goes-number}
use Rattle.msh_data.specs.Pieces.{reals}
use Rattle.msh_data.proofs.head.real_tags.Goals as goal

pub returns-in_err-count : goal.returns-in_err-count
unfolding reals
returns-in_err-count c =
    let p = err_from_is_err_and c.from_residual.result c.from_residual.ensures.1 in
    rw (p.1, p.2) (goes-fault _ (goes-number uint_of c.in_err-count.ensures))

pub returns : goal.returns
unfolding reals
returns c = goes-then _ (goes-number uint_of c.in_ok-count.ensures) c.pass_reals.ensures
