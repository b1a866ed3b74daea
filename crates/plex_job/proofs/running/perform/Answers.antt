use Rattle.std.proofs.Common.{Ok, refl, sym, subst}
use Rattle.headline_defs.specs.Headline.{Headline}
use Rattle.plex_job.specs.job_task.Reading.{task_view}
use Rattle.plex_job.specs.Seen.{just, seen_alone}
use Rattle.plex_job.proofs.Once.{built-once}
use Rattle.plex_job.proofs.Endings.{ran-out-early, refuses-twist, tells}
use Rattle.plex_job.proofs.Twists.{twist-at-face}
use Rattle.plex_job.proofs.running.perform.Goals as goal

pub write_refusal-written-requires : goal.write_refusal-written-requires
write_refusal-written-requires g c = twist-at-face c.args.task.now.mesh c.in-Err-Twist.key.0 c.dim-dim.ensures.right (rw c.in-Err-Twist.field-0-is at c.in-Err-Twist.ensures.fault).0

pub returns-in-Ok-clause-headline : goal.returns-in-Ok-clause-headline
returns-in-Ok-clause-headline g c =
    let s = c.in-Ok.spreading in
    let spread = c.in-Ok.ensures.spread in
    coe 0 1 (i. Headline (just (Ok (task_view (spread.0 i)))) (seen_alone g.W.Sink.written g.W.Sink.flushed g.W.Sink.faults g.F.Fabric.kept c.args.out.now c.write-written.new.out c.args.fabric.now c.write-written.new.fabric (sym c.ending.ensures i)))
    (tells g.W.Sink.written g.W.Sink.flushed g.W.Sink.faults g.W.Sink.counts_failures_alone g.F.Fabric.kept c.args.out.now c.write-written.new.out c.args.fabric.now c.write-written.new.fabric
    (task_view s.task.now) c.in-Ok.home c.write-written.result (built-once (task_view s.task.now) spread.1.built) spread.1.whole.even c.in-Ok.ensures.home c.write-written.ensures)

pub returns-in-Err-Twist-clause-headline : goal.returns-in-Err-Twist-clause-headline
returns-in-Err-Twist-clause-headline g c =
    let fault = rw c.in-Err-Twist.field-0-is at c.in-Err-Twist.ensures.fault in
    subst (λ s. Headline (just (Ok (task_view c.args.task.now))) (seen_alone g.W.Sink.written g.W.Sink.flushed g.W.Sink.faults g.F.Fabric.kept c.args.out.now c.write_refusal-written.new.out c.args.fabric.now c.spread_mesh.new.fabric s)) (sym c.ending-in-Err-Twist.ensures)
    (refuses-twist g.W.Sink.written g.W.Sink.flushed g.W.Sink.faults g.W.Sink.counts_failures_alone g.F.Fabric.kept c.args.out.now c.write_refusal-written.new.out c.args.fabric.now c.spread_mesh.new.fabric
    (task_view c.args.task.now) c.in-Err-Twist.key.0 fault.1.0 c.write_refusal-written.result fault.0 fault.1.1 c.write_refusal-written.ensures)

pub returns-in-Err-NoMemory-clause-headline : goal.returns-in-Err-NoMemory-clause-headline
returns-in-Err-NoMemory-clause-headline g c =
    ran-out-early g.W.Sink.written g.W.Sink.flushed g.W.Sink.faults g.W.Sink.counts_failures_alone g.F.Fabric.kept c.args.out.now c.args.out.now c.args.fabric.now c.spread_mesh.new.fabric
    (task_view c.args.task.now) refl (rw c.in-Err-NoMemory.field-0-is at c.in-Err-NoMemory.ensures.fault)
