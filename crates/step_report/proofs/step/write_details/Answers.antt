use Rattle.cause_defs.proofs.Reporting.{Reports-then, Reports-stop, Reports-exit}
use Rattle.step_report.specs.Pages.{details_of}
use Rattle.step_report.proofs.step.write_details.Goals as goal

pub returns-in_err-write_all : goal.returns-in_err-write_all
unfolding details_of
returns-in_err-write_all g c = Reports-exit c.from_residual.result c.from_residual.ensures.1 (Reports-stop _ (Reports-stop _ (Reports-stop _ (Reports-stop _ (Reports-stop _ (Reports-stop _ (Reports-stop _ c.in_err-write_all.ensures)))))))

pub returns-in_err-write_all-2 : goal.returns-in_err-write_all-2
unfolding details_of
returns-in_err-write_all-2 g c = Reports-exit c.from_residual-in_err-write_all-2.result c.from_residual-in_err-write_all-2.ensures.1 (Reports-stop _ (Reports-stop _ (Reports-stop _ (Reports-stop _ (Reports-stop _ (Reports-stop _ (Reports-then c.in_ok-write_all.ensures c.in_err-write_all-2.ensures)))))))

pub returns-in_err-write_total : goal.returns-in_err-write_total
unfolding details_of
returns-in_err-write_total g c = Reports-exit c.from_residual-in_err-write_total.result c.from_residual-in_err-write_total.ensures.1 (Reports-stop _ (Reports-stop _ (Reports-stop _ (Reports-stop _ (Reports-stop _ (Reports-then (Reports-then c.in_ok-write_all.ensures c.in_ok-write_all-2.ensures) c.in_err-write_total.ensures))))))

pub returns-in_err-write_where : goal.returns-in_err-write_where
unfolding details_of
returns-in_err-write_where g c = Reports-exit c.from_residual-in_err-write_where.result c.from_residual-in_err-write_where.ensures.1 (Reports-stop _ (Reports-stop _ (Reports-stop _ (Reports-stop _ (Reports-then (Reports-then (Reports-then c.in_ok-write_all.ensures c.in_ok-write_all-2.ensures) c.in_ok-write_total.ensures) c.in_err-write_where.ensures)))))

pub returns-in_err-write_where-2 : goal.returns-in_err-write_where-2
unfolding details_of
returns-in_err-write_where-2 g c = Reports-exit c.from_residual-in_err-write_where-2.result c.from_residual-in_err-write_where-2.ensures.1 (Reports-stop _ (Reports-stop _ (Reports-stop _ (Reports-then (Reports-then (Reports-then (Reports-then c.in_ok-write_all.ensures c.in_ok-write_all-2.ensures) c.in_ok-write_total.ensures) c.in_ok-write_where.ensures) c.in_err-write_where-2.ensures))))

pub returns-in_err-write_where-3 : goal.returns-in_err-write_where-3
unfolding details_of
returns-in_err-write_where-3 g c = Reports-exit c.from_residual-in_err-write_where-3.result c.from_residual-in_err-write_where-3.ensures.1 (Reports-stop _ (Reports-stop _ (Reports-then (Reports-then (Reports-then (Reports-then (Reports-then c.in_ok-write_all.ensures c.in_ok-write_all-2.ensures) c.in_ok-write_total.ensures) c.in_ok-write_where.ensures) c.in_ok-write_where-2.ensures) c.in_err-write_where-3.ensures)))

pub returns-in_err-write_where-4 : goal.returns-in_err-write_where-4
unfolding details_of
returns-in_err-write_where-4 g c = Reports-exit c.from_residual-in_err-write_where-4.result c.from_residual-in_err-write_where-4.ensures.1 (Reports-stop _ (Reports-then (Reports-then (Reports-then (Reports-then (Reports-then (Reports-then c.in_ok-write_all.ensures c.in_ok-write_all-2.ensures) c.in_ok-write_total.ensures) c.in_ok-write_where.ensures) c.in_ok-write_where-2.ensures) c.in_ok-write_where-3.ensures) c.in_err-write_where-4.ensures))

pub returns : goal.returns
unfolding details_of
returns g c = Reports-then (Reports-then (Reports-then (Reports-then (Reports-then (Reports-then (Reports-then c.in_ok-write_all.ensures c.in_ok-write_all-2.ensures) c.in_ok-write_total.ensures) c.in_ok-write_where.ensures) c.in_ok-write_where-2.ensures) c.in_ok-write_where-3.ensures) c.in_ok-write_where-4.ensures) c.write_windows.ensures
