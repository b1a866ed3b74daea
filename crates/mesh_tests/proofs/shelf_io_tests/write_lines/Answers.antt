use Rattle.std.proofs.Common.{◌≡◌, get_or, ap, ◌∙◌, arith}
use Rattle.cause_defs.proofs.Reporting.{Reports-exit, Reports-inside}
use Rattle.mesh_tests.proofs.shelf_io_tests.write_lines.Goals as goal

pub returns-in_err-write_piece : goal.returns-in_err-write_piece
returns-in_err-write_piece g c =
    let text : c.deref.result.now ≡ (get_or c.args.lines.now c.loop-line.line-index c.line-item.result).items = c.deref.ensures.value ∙ ap (λ line. line.items) c.line-item.is in
    Reports-exit c.from_residual.result c.from_residual.ensures.1
    (Reports-inside (λ line. line.items) c.args.lines.now c.loop-line.line-index c.line-item.result (omega arith) c.loop-line.invariant (rw text at c.in_err-write_piece.ensures))
