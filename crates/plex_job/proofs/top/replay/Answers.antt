use Rattle.std.proofs.Common.{refl, sym, subst}
use Rattle.std.specs.Prelude.{map, string_bytes}
use Rattle.plex_job.specs.declared.picked.PickedFabric.{PickedFabric}
use Rattle.plex_job.specs.Picked.{told_before}
use Rattle.plex_job.specs.Seen.{seen_replay, Replays}
use Rattle.plex_job.proofs.ReplayCalls.{picked, unpicked, unpicked-memory, rest-after}
use Rattle.plex_job.proofs.top.replay.Goals as goal

pub returns-in-Ok-None-clause-replay : goal.returns-in-Ok-None-clause-replay
returns-in-Ok-None-clause-replay g c =
    let words = map string_bytes c.args.words.now in
    subst (λ s. Replays (seen_replay g.S.Shelf.file g.S.Shelf.faults g.S.Shelf.last_failed g.W.Sink.written g.W.Sink.flushed g.W.Sink.faults words c.args.shelf.now c.args.shelf.now c.args.out.now c.write_refusal-written.new.out s)) (sym c.ending.ensures)
    (unpicked g.S.Shelf.file g.S.Shelf.faults g.S.Shelf.last_failed g.W.Sink.written g.W.Sink.flushed g.W.Sink.faults g.W.Sink.counts_failures_alone words c.args.shelf.now c.args.shelf.now c.args.out.now c.write_refusal-written.new.out
    c.write_refusal-written.result (rw c.in-Ok-None.field-0-is at c.in-Ok-None.ensures.picks) c.write_refusal-written.ensures)

pub returns-in-Err-clause-replay : goal.returns-in-Err-clause-replay
returns-in-Err-clause-replay g c =
    unpicked-memory g.S.Shelf.file g.S.Shelf.faults g.S.Shelf.last_failed g.W.Sink.written g.W.Sink.flushed g.W.Sink.faults g.W.Sink.counts_failures_alone (map string_bytes c.args.words.now) c.args.shelf.now c.args.shelf.now c.args.out.now c.args.out.now refl

pub returns-in-Ok-Some-clause-replay : goal.returns-in-Ok-Some-clause-replay
returns-in-Ok-Some-clause-replay g c =
    let words = map string_bytes c.args.words.now in
    picked g.S.Shelf.file g.S.Shelf.faults g.S.Shelf.last_failed g.W.Sink.written g.W.Sink.flushed g.W.Sink.faults g.W.Sink.counts_failures_alone words c.args.shelf.now c.run_words.new.shelf c.args.out.now c.run_words.new.out
    (λ (f : PickedFabric). told_before f.script.picks.items f.script.kept.items) c.new-fabric.result c.run_words.new.fabric _ c.in-Ok-Some.picks.items c.run_words.new.fabric.script.picks.items c.run_words.new.fabric.script.kept.items c.run_words.result
    (λ i. told_before (c.new-fabric.ensures.picks i) (c.new-fabric.ensures.kept i)) refl (rw c.in-Ok-Some.field-0-is at c.in-Ok-Some.ensures.picks) (rest-after string_bytes c.args.words.now) (c.run_words.ensures.headline words)
