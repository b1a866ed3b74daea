use Rattle.std.proofs.Common.{refl, sym, subst, ◌∙◌, ap}
use Rattle.std.specs.Prelude.{map, string_bytes}
use Rattle.headline_defs.specs.Headline.{Headline}
use Rattle.headline_defs.specs.Tops.{asking_built}
use Rattle.plex_job.specs.Seen.{seen}
use Rattle.plex_job.specs.Statuses.{ending}
use Rattle.plex_job.proofs.Calls.{moved, refused-call, unread-memory}
use Rattle.plex_job.proofs.top.run_words.Goals as goal

pub returns-in-Ok-clause-headline : goal.returns-in-Ok-clause-headline
returns-in-Ok-clause-headline g c = λ seen_words.
    let words = map string_bytes c.args.words.now in
    moved g.S.Shelf.file g.S.Shelf.faults g.S.Shelf.last_failed g.W.Sink.written g.W.Sink.flushed g.W.Sink.faults g.W.Sink.counts_failures_alone g.F.Fabric.kept seen_words
    c.args.shelf.now c.read_task.new.shelf c.args.out.now c.perform.new.out c.args.fabric.now c.perform.new.fabric (asking_built words) _ c.in-Ok.ensures.task c.perform.result c.perform.ensures.headline

pub returns-in-Err-Refused-clause-headline : goal.returns-in-Err-Refused-clause-headline
returns-in-Err-Refused-clause-headline g c = λ seen_words.
    let words = map string_bytes c.args.words.now in
    subst (λ s. Headline (asking_built words) (seen g.S.Shelf.file g.S.Shelf.faults g.S.Shelf.last_failed g.W.Sink.written g.W.Sink.flushed g.W.Sink.faults g.F.Fabric.kept seen_words
    c.args.shelf.now c.read_task.new.shelf c.args.out.now c.write_refusal-written.new.out c.args.fabric.now c.args.fabric.now s))
    (sym (c.ending.ensures ∙ ap (ending c.write_refusal-written.result) c.status.ensures))
    (refused-call g.S.Shelf.file g.S.Shelf.faults g.S.Shelf.last_failed g.W.Sink.written g.W.Sink.flushed g.W.Sink.faults g.W.Sink.counts_failures_alone g.F.Fabric.kept seen_words
    c.args.shelf.now c.read_task.new.shelf c.args.out.now c.write_refusal-written.new.out c.args.fabric.now c.args.fabric.now
    (asking_built words) c.in-Err-Refused.refusal c.write_refusal-written.result (rw c.in-Err-Refused.field-0-is at c.in-Err-Refused.ensures.stop) refl c.write_refusal-written.ensures)

pub returns-in-Err-NoMemory-clause-headline : goal.returns-in-Err-NoMemory-clause-headline
returns-in-Err-NoMemory-clause-headline g c = λ seen_words.
    let words = map string_bytes c.args.words.now in
    unread-memory g.S.Shelf.file g.S.Shelf.faults g.S.Shelf.last_failed g.W.Sink.written g.W.Sink.flushed g.W.Sink.faults g.W.Sink.counts_failures_alone g.F.Fabric.kept seen_words
    c.args.shelf.now c.read_task.new.shelf c.args.out.now c.args.out.now c.args.fabric.now c.args.fabric.now (asking_built words) refl refl
