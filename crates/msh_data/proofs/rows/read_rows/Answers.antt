use Rattle.std.proofs.Common.{◌≡◌, ◌+◌, ◌-◌, suc, arith}
use Rattle.std.proofs.lemmas.Result.{err_from_is_err_and}
use Rattle.input_laws.proofs.reading_laws.Going.{repeat-step, repeat-fault, repeat-done}
use Rattle.msh_data.specs.Pieces.{flat_of, row_onto}
use Rattle.msh_data.proofs.FlatRows.{rows-read, rows-fit, rows-fault}
use Rattle.msh_data.proofs.rows.read_rows.Goals as goal

pub loop-preserved : goal.loop-preserved
loop-preserved g c =
    let one : c.args.shape.rows - c.loop.counter ≡ suc (c.args.shape.rows - (c.loop.counter + 1)) = omega arith in
    record {
      end = c.loop.invariant.end;
      left = repeat-step (row_onto (g.K.Numbers.known c.args.known.now) c.args.shape.comps) _ _ _ one c.loop.invariant.left c.in_ok-append_row.ensures;
    }

pub returns-in_err-append_row-clause-goes : goal.returns-in_err-append_row-clause-goes
returns-in_err-append_row-clause-goes g c =
    let p = err_from_is_err_and c.from_residual.result c.from_residual.ensures.1 in
    let one : c.args.shape.rows - c.loop.counter ≡ suc (c.args.shape.rows - (c.loop.counter + 1)) = omega arith in
    rw (p.1, p.2) (rows-fault _ _ _ (repeat-fault (row_onto (g.K.Numbers.known c.args.known.now) c.args.shape.comps) _ _ _ one c.loop.invariant.left c.in_err-append_row.ensures))

pub returns-clause-goes : goal.returns-clause-goes
returns-clause-goes g c =
    let none : c.args.shape.rows - c.loop.counter ≡ 0 = omega arith in
    rows-read _ _ _ (flat_of c.loop.rows) (repeat-done (row_onto (g.K.Numbers.known c.args.known.now) c.args.shape.comps) _ _ none c.loop.invariant.left)

pub returns-clause-lengths : goal.returns-clause-lengths
returns-clause-lengths g c =
    let none : c.args.shape.rows - c.loop.counter ≡ 0 = omega arith in
    rows-fit (g.K.Numbers.known c.args.known.now) c.args.shape.comps c.args.shape.rows (flat_of c.loop.rows) (repeat-done (row_onto (g.K.Numbers.known c.args.known.now) c.args.shape.comps) _ _ none c.loop.invariant.left)
