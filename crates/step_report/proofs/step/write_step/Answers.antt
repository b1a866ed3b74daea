use Rattle.std.proofs.lemmas.List.FromFn.{length-enumerate_from}
use Rattle.cause_defs.proofs.Reporting.{Reports-then, Reports-stop, Reports-exit}
use Rattle.walk_defs.specs.step_defs.Steps.{plain_step, plain_details}
use Rattle.step_report.specs.Desks.{plain_lines}
use Rattle.step_report.specs.Pages.{details_of}
use Rattle.step_report.proofs.step.write_step.Goals as goal

pub returns-in_err-write_step_line : goal.returns-in_err-write_step_line
unfolding plain_step
returns-in_err-write_step_line g c = Reports-exit c.from_residual.result c.from_residual.ensures.1 (Reports-stop _ c.in_err-write_step_line.ensures)

pub returns : goal.returns
unfolding plain_step plain_details details_of plain_lines
returns g c =
    let many = length-enumerate_from 0 c.args.d.now.locals in
    rw (c.if-show.false, many) (Reports-then c.in_ok-write_step_line.ensures c.write_details.ensures)

pub returns-then-show : goal.returns-then-show
unfolding plain_step
returns-then-show g c = rw c.if-show.true (Reports-then c.in_ok-write_step_line.ensures c.write_sums.ensures)
