use Rattle.step_report.proofs.Summing.{sums-plain}
use Rattle.step_report.proofs.sums.append_sums.Goals as goal

pub returns : goal.returns
returns c = rw (sums-plain c.args.d.now c.in_ok-sums.sums c.in_ok-sums.ensures) at c.append_sum_line.ensures
