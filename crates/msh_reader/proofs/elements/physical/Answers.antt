use Rattle.std.proofs.lemmas.Result.{err_from_is_err_and}
use Rattle.input_defs.specs.scan_defs.Numbers.{uint_of}
use Rattle.msh_reader.specs.Views.{physical}
use Rattle.msh_reader.proofs.Going.{goes-then, goes-fault, goes-number, goes-no_number}
use Rattle.msh_reader.proofs.elements.physical.Goals as goal

pub returns-in_err-count : goal.returns-in_err-count
unfolding physical
returns-in_err-count c =
    let p = err_from_is_err_and c.from_residual.result c.from_residual.ensures.1 in
    rw (p.1, p.2) (goes-fault _ (goes-no_number uint_of c.in_err-count.ensures))

pub returns : goal.returns
unfolding physical
returns c = goes-then _ (goes-number uint_of c.in_ok-count.ensures) c.first_int.ensures
