use Rattle.cause_defs.proofs.Reporting.{Reports-exit, Reports-stop, Reports-then}
use Rattle.mesh_tests.proofs.shelf_io_tests.write_both.Goals as goal

pub returns-in_err-write_piece : goal.returns-in_err-write_piece
returns-in_err-write_piece g c = Reports-exit c.from_residual.result c.from_residual.ensures.1 (Reports-stop c.args.second.now c.in_err-write_piece.ensures)

pub returns : goal.returns
returns g c = Reports-then c.in_ok-write_piece.ensures c.write_piece-2.ensures
