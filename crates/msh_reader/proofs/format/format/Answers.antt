use Rattle.std.proofs.lemmas.Result.{err_from_is_err_and}
use Rattle.input_defs.specs.scan_defs.Numbers.{uint_of}
use Rattle.input_defs.specs.Sections.{format}
use Rattle.msh_reader.proofs.Going.{goes-then, goes-fault, goes-number, goes-no_number}
use Rattle.msh_reader.proofs.format.format.Goals as goal

pub returns-in_err-version : goal.returns-in_err-version
unfolding format
returns-in_err-version c =
    let p = err_from_is_err_and c.from_residual.result c.from_residual.ensures.1 in
    rw (p.1, p.2) (goes-fault _ c.in_err-version.ensures)

pub returns-in_err-file_type : goal.returns-in_err-file_type
unfolding format
returns-in_err-file_type c =
    let p = err_from_is_err_and c.from_residual-in_err-file_type.result c.from_residual-in_err-file_type.ensures.1 in
    rw (p.1, p.2) (goes-then _ c.in_ok-version.ensures (goes-fault _ c.in_err-file_type.ensures))

pub returns-in_err-size : goal.returns-in_err-size
unfolding format
returns-in_err-size c =
    let p = err_from_is_err_and c.from_residual-in_err-size.result c.from_residual-in_err-size.ensures.1 in
    rw (p.1, p.2) (goes-then _ c.in_ok-version.ensures (goes-then _ c.in_ok-file_type.ensures (goes-no_number uint_of c.in_err-size.ensures)))

pub returns : goal.returns
unfolding format
returns c = goes-then _ c.in_ok-version.ensures (goes-then _ c.in_ok-file_type.ensures (goes-number uint_of c.in_ok-size.ensures))
