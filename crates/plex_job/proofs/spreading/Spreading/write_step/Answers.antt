use Rattle.std.proofs.Common.{◌≡◌, ap, subst, ◌∙◌, arith}
use Rattle.cause_defs.specs.Reports.{Reports}
use Rattle.cause_defs.proofs.Reporting.{Reports-then, Reports-stop, Reports-exit}
use Rattle.walk_defs.specs.step_defs.Steps.{plain_step}
use Rattle.plex_job.specs.Spreading.{printed_at}
use Rattle.plex_job.proofs.Once.{states-count}
use Rattle.plex_job.proofs.Printing.{lines-same}
use Rattle.plex_job.proofs.spreading.Spreading.write_step.Goals as goal

pub returns-in_err-write_before : goal.returns-in_err-write_before
returns-in_err-write_before g c = λ home latest is. Reports-exit c.from_residual.result c.from_residual.ensures.1 (Reports-stop _ c.in_err-write_before.ensures)

pub overflow_cast-i : goal.overflow_cast-i
overflow_cast-i g c = omega (arith, c.requires.i, c.requires.spread.built.plan.steps, states-count c.args.self.now.task.now.mesh c.args.self.now.task.now.plan.plan)

pub returns : goal.returns
returns g c = λ home latest is.
    let s = c.args.self.now in
    let p = printed_at s c.args.i c.args.bases.now c.args.numbers.now c.args.rounds.now in
    let shown : plain_step (record p { show = c.show-show.result }) ≡ plain_step p = ap (λ sh. plain_step (record p { show = sh })) c.show-show.ensures in
    Reports-then c.in_ok-write_before.ensures
    (subst (Reports g.W.Sink.written g.W.Sink.flushed g.W.Sink.faults g.W.Sink.counts_failures_alone c.write_step.result c.write_before.new.out c.write_step.new.out)
    (shown ∙ lines-same s c.requires.spread c.args.i home latest c.args.bases.now c.args.numbers.now c.args.rounds.now is c.requires.i) c.write_step.ensures)
