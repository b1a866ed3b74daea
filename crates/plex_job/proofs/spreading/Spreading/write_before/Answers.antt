use Rattle.std.proofs.Common.{subst}
use Rattle.cause_defs.specs.Reports.{Reports}
use Rattle.cause_defs.proofs.Reporting.{Reports-none}
use Rattle.std.proofs.Common.{Ok}
use Rattle.plex_job.specs.Spreading.{printed}
use Rattle.plex_job.proofs.Printing.{later-empty, first-head}
use Rattle.plex_job.proofs.spreading.Spreading.write_before.Goals as goal

pub returns-then-i-gt0 : goal.returns-then-i-gt0
returns-then-i-gt0 g c =
    subst (Reports g.W.Sink.written g.W.Sink.flushed g.W.Sink.faults g.W.Sink.counts_failures_alone (Ok (tt {0})) c.args.out.now c.args.out.now) (later-empty (printed c.args.self.now) c.args.i c.if-i-gt0.true) (Reports-none tt c.args.out.now)

pub returns : goal.returns
returns g c =
    subst (Reports g.W.Sink.written g.W.Sink.flushed g.W.Sink.faults g.W.Sink.counts_failures_alone c.write_head.result c.args.out.now c.write_head.new.out) (first-head (printed c.args.self.now) c.args.i c.if-i-gt0.false) c.write_head.ensures
