use Rattle.std.proofs.Common.{Ok}
use Rattle.cause_defs.specs.Reports.{Reports}
use Rattle.report.proofs.Delivering.{Delivers-unflushed}
use Rattle.report.proofs.writing.write_last.Goals as goal

pub returns-in_err-flush : goal.returns-in_err-flush
returns-in_err-flush g c =
    let w : Reports g.W.Sink.written g.W.Sink.flushed g.W.Sink.faults g.W.Sink.counts_failures_alone (Ok (tt {0})) c.args.out.now c.write.new.self c.args.line.now = record {
      prints = c.in_ok-write.ensures.prints;
      flushed_stay = c.write.ensures.flushed_stay;
      cause = tt;
      never_falls = c.write.ensures.never_falls;
      others = c.in_ok-write.ensures.ok_count;
      counts_alike = c.write.ensures.counts_alike;
    } in
    Delivers-unflushed c.from_residual-in_err-flush.result c.from_residual-in_err-flush.ensures.1 w c.flush.ensures.written_stay c.in_err-flush.ensures.err c.in_err-flush.ensures.failed
    c.flush.ensures.never_falls c.flush.ensures.counts_alike
