use Rattle.std.proofs.lemmas.Result.{err_from_is_err_and}
use Rattle.input_defs.specs.Plans.{misfits}
use Rattle.plan_reader.proofs.FitLemmas.{fits_more, fits_not}
use Rattle.plan_reader.proofs.fits.first_misfit.Goals as goal

pub returns-in_err-move_fits : goal.returns-in_err-move_fits
returns-in_err-move_fits c =
    let p = err_from_is_err_and c.from_residual.result c.from_residual.ensures.1 in
    rw (p.1, p.2) (fits_not (misfits c.args.ranks c.args.cells) c.args.moves.now c.loop-m.m-index c.m-item.result _ c.loop-m-test.true c.m-item.is c.in_err-move_fits.ensures c.loop-m.invariant)

pub loop-m-preserved : goal.loop-m-preserved
loop-m-preserved c = fits_more (misfits c.args.ranks c.args.cells) c.args.moves.now c.loop-m.m-index c.m-item.result c.loop-m-test.true c.m-item.is c.in_ok-move_fits.ensures c.loop-m.invariant
