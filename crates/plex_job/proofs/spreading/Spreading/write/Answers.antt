use Rattle.plex_job.specs.Spreading.{printed}
use Rattle.plex_job.proofs.Course.{text-stop, text-end}
use Rattle.plex_job.proofs.spreading.Spreading.write.Goals as goal

pub returns-in_err-write_steps : goal.returns-in_err-write_steps
returns-in_err-write_steps g c =
    text-stop g.W.Sink.written g.W.Sink.flushed g.W.Sink.faults g.W.Sink.counts_failures_alone g.F.Fabric.kept (printed c.args.self.now) c.args.home c.from_residual.result c.in_err-write_steps.field-0.0
    c.args.out.now c.write_steps.new.out c.args.fabric.now c.write_steps.new.fabric c.from_residual.ensures.1 c.in_err-write_steps.ensures

pub returns : goal.returns
returns g c =
    text-end g.W.Sink.written g.W.Sink.flushed g.W.Sink.faults g.W.Sink.counts_failures_alone g.F.Fabric.kept (printed c.args.self.now) c.args.home tt c.write_end.result
    c.args.out.now c.write_steps.new.out c.write_end.new.out c.args.fabric.now c.write_steps.new.fabric c.in_ok-write_steps.ensures c.write_end.ensures
