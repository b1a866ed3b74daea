use Rattle.std.proofs.lemmas.Result.{err_from_is_err_and}
use Rattle.input_defs.specs.scan_defs.Numbers.{int_of}
use Rattle.input_laws.proofs.reading_laws.Going.{goes-then, goes-fault, goes-give, goes-number}
use Rattle.msh_data.specs.Pieces.{shape}
use Rattle.msh_data.proofs.head.int_tags.Goals as goal

pub returns-in_err-count-clause-goes : goal.returns-in_err-count-clause-goes
unfolding shape
returns-in_err-count-clause-goes c =
    let p = err_from_is_err_and c.from_residual.result c.from_residual.ensures.1 in
    rw (p.1, p.2) (goes-fault _ c.in_err-count.ensures)

pub returns-in_err-int-clause-goes : goal.returns-in_err-int-clause-goes
unfolding shape
returns-in_err-int-clause-goes c =
    let p = err_from_is_err_and c.from_residual-in_err-int.result c.from_residual-in_err-int.ensures.1 in
    rw (p.1, p.2) (goes-then _ c.in_ok-count.ensures (goes-fault _ (goes-number int_of c.in_err-int.ensures)))

pub returns-in_err-comps-clause-goes : goal.returns-in_err-comps-clause-goes
unfolding shape
returns-in_err-comps-clause-goes c =
    let p = err_from_is_err_and c.from_residual-in_err-comps.result c.from_residual-in_err-comps.ensures.1 in
    rw (p.1, p.2) (goes-then _ c.in_ok-count.ensures (goes-then _ (goes-number int_of c.in_ok-int.ensures) (goes-fault _ c.in_err-comps.ensures.goes)))

pub returns-in_err-rows-clause-goes : goal.returns-in_err-rows-clause-goes
unfolding shape
returns-in_err-rows-clause-goes c =
    let p = err_from_is_err_and c.from_residual-in_err-rows.result c.from_residual-in_err-rows.ensures.1 in
    rw (p.1, p.2) (goes-then _ c.in_ok-count.ensures (goes-then _ (goes-number int_of c.in_ok-int.ensures) (goes-then _ c.in_ok-comps.ensures.goes (goes-fault _ c.in_err-rows.ensures))))

pub returns-in_err-pass_ints-clause-goes : goal.returns-in_err-pass_ints-clause-goes
unfolding shape
returns-in_err-pass_ints-clause-goes c =
    let p = err_from_is_err_and c.from_residual-in_err-pass_ints.result c.from_residual-in_err-pass_ints.ensures.1 in
    rw (p.1, p.2) (goes-then _ c.in_ok-count.ensures (goes-then _ (goes-number int_of c.in_ok-int.ensures) (goes-then _ c.in_ok-comps.ensures.goes (goes-then _ c.in_ok-rows.ensures (goes-fault _ c.in_err-pass_ints.ensures)))))

pub returns-clause-goes : goal.returns-clause-goes
unfolding shape
returns-clause-goes c = goes-then _ c.in_ok-count.ensures (goes-then _ (goes-number int_of c.in_ok-int.ensures) (goes-then _ c.in_ok-comps.ensures.goes (goes-then _ c.in_ok-rows.ensures (goes-then _ c.in_ok-pass_ints.ensures (goes-give _ _)))))
