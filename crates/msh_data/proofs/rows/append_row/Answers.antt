use Rattle.std.proofs.lemmas.Result.{err_from_is_err_and}
use Rattle.input_laws.proofs.reading_laws.Going.{goes-then, goes-fault, goes-give}
use Rattle.msh_data.specs.Pieces.{row_onto}
use Rattle.msh_data.proofs.rows.append_row.Goals as goal

pub returns-in_err-number : goal.returns-in_err-number
unfolding row_onto
returns-in_err-number g c =
    let p = err_from_is_err_and c.from_residual.result c.from_residual.ensures.1 in
    rw (p.1, p.2) (goes-fault _ c.in_err-number.ensures)

pub returns-in_err-append_values : goal.returns-in_err-append_values
unfolding row_onto
returns-in_err-append_values g c =
    let p = err_from_is_err_and c.from_residual-in_err-append_values.result c.from_residual-in_err-append_values.ensures.1 in
    rw (p.1, p.2) (goes-then _ c.in_ok-number.ensures (goes-fault _ c.in_err-append_values.ensures))

pub returns : goal.returns
unfolding row_onto
returns g c = rw c.in_ok-push.ensures.items (goes-then _ c.in_ok-number.ensures (goes-then _ c.in_ok-append_values.ensures (goes-give _ _)))
