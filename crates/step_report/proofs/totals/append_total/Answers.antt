use Rattle.step_report.proofs.Counting.{total-plain}
use Rattle.step_report.proofs.totals.append_total.Goals as goal

pub returns : goal.returns
returns c = rw (total-plain c.args.d.now c.totals.result c.totals.ensures) at c.append_total_line.ensures
