use Rattle.std.proofs.Common.{◌<◌, ◌++◌, [], ◌∷◌, length, ap, ◌∙◌, arith}
use Rattle.input_defs.specs.States.{states, first_ranks}
use Rattle.plan_reader.specs.Drafts.{counts_of}
use Rattle.plex_job.specs.job_task.Reading.{task_view}
use Rattle.plex_job.specs.Spreading.{printed}
use Rattle.plex_job.proofs.Once.{built-once, states-count}
use Rattle.plex_job.proofs.Course.{done-none, done-next, done-all, stop-undrawn, stop-unwritten, stop-writing, kept-number, later-none, step-of}
use Rattle.plex_job.proofs.Printing.{can-print}
use Rattle.plex_job.proofs.spreading.Spreading.write_steps.Goals as goal

pub loop-i-init : goal.loop-i-init
loop-i-init g c = (done-none g.W.Sink.written g.W.Sink.flushed g.W.Sink.faults g.W.Sink.counts_failures_alone g.F.Fabric.kept (printed c.args.self.now) c.args.home c.args.out.now c.args.fabric.now, c.in_ok-push.ensures.items ∙ ap (λ l. l ++ c.args.home ∷ []) c.new-rounds.ensures.items)

pub returns-in_err-bases : goal.returns-in_err-bases
returns-in_err-bases g c =
    let s = c.args.self.now in
    let m = s.task.now.mesh in
    let plan = s.task.now.plan.plan in
    let count = states-count m plan in
    let low : c.loop-i.i < length (states m plan) = omega (arith, c.loop-i-test.true, c.steps-i-end.ensures, count) in
    stop-undrawn g.W.Sink.written g.W.Sink.flushed g.W.Sink.faults g.W.Sink.counts_failures_alone g.F.Fabric.kept (printed c.args.self.now) c.args.home c.from_residual-in_err-bases.result c.loop-i.i c.args.out.now c.loop-i.out c.args.fabric.now c.loop-i.fabric c.number.new.fabric
    c.from_residual-in_err-bases.ensures.1 c.loop-i.invariant.0 (omega (arith, low)) c.in_err-bases.ensures.no_memory

pub returns-in_err-numbers : goal.returns-in_err-numbers
returns-in_err-numbers g c =
    let s = c.args.self.now in
    let m = s.task.now.mesh in
    let plan = s.task.now.plan.plan in
    let count = states-count m plan in
    let low : c.loop-i.i < length (states m plan) = omega (arith, c.loop-i-test.true, c.steps-i-end.ensures, count) in
    let once = built-once (task_view s.task.now) c.requires.spread.built in
    let r = c.in_ok-bases.round in
    let drawn = c.in_ok-bases.ensures.round m (counts_of plan.dofs) (first_ranks m plan) plan.ranks 0 c.requires.spread.whole.dist in
    let one = c.spread.ensures.kept ∙ c.in_ok-bases.ensures.kept ∙ kept-number (g.F.Fabric.kept c.loop-i.fabric) r drawn.tag in
    stop-unwritten g.W.Sink.written g.W.Sink.flushed g.W.Sink.faults g.W.Sink.counts_failures_alone g.F.Fabric.kept (printed c.args.self.now) c.args.home once r drawn c.loop-i.i low c.args.out.now c.loop-i.out c.args.fabric.now c.loop-i.fabric c.spread.new.fabric c.loop-i.invariant.0 one
    c.from_residual-in_err-numbers.result c.from_residual-in_err-numbers.ensures.1

pub returns-in_err-push-2 : goal.returns-in_err-push-2
returns-in_err-push-2 g c =
    let s = c.args.self.now in
    let m = s.task.now.mesh in
    let plan = s.task.now.plan.plan in
    let count = states-count m plan in
    let low : c.loop-i.i < length (states m plan) = omega (arith, c.loop-i-test.true, c.steps-i-end.ensures, count) in
    let once = built-once (task_view s.task.now) c.requires.spread.built in
    let r = c.in_ok-bases.round in
    let drawn = c.in_ok-bases.ensures.round m (counts_of plan.dofs) (first_ranks m plan) plan.ranks 0 c.requires.spread.whole.dist in
    let one = c.spread.ensures.kept ∙ c.in_ok-bases.ensures.kept ∙ kept-number (g.F.Fabric.kept c.loop-i.fabric) r drawn.tag in
    stop-unwritten g.W.Sink.written g.W.Sink.flushed g.W.Sink.faults g.W.Sink.counts_failures_alone g.F.Fabric.kept (printed c.args.self.now) c.args.home once r drawn c.loop-i.i low c.args.out.now c.loop-i.out c.args.fabric.now c.loop-i.fabric c.spread.new.fabric c.loop-i.invariant.0 one
    c.from_residual-in_err-push-2.result c.from_residual-in_err-push-2.ensures.1

pub write_step-requires-clause-i : goal.write_step-requires-clause-i
write_step-requires-clause-i g c = omega (arith, c.loop-i-test.true, c.steps-i-end.ensures, states-count c.args.self.now.task.now.mesh c.args.self.now.task.now.plan.plan)

pub write_step-requires-clause-can : goal.write_step-requires-clause-can
write_step-requires-clause-can g c =
    let s = c.args.self.now in
    let m = s.task.now.mesh in
    let plan = s.task.now.plan.plan in
    let count = states-count m plan in
    let low : c.loop-i.i < length (states m plan) = omega (arith, c.loop-i-test.true, c.steps-i-end.ensures, count) in
    let once = built-once (task_view s.task.now) c.requires.spread.built in
    let r = c.in_ok-bases.round in
    let drawn = c.in_ok-bases.ensures.round m (counts_of plan.dofs) (first_ranks m plan) plan.ranks 0 c.requires.spread.whole.dist in
    let one = c.spread.ensures.kept ∙ c.in_ok-bases.ensures.kept ∙ kept-number (g.F.Fabric.kept c.loop-i.fabric) r drawn.tag in
    let is = step-of s c.loop-i.i c.args.home r c.in_ok-bases.bases c.in_ok-numbers.numbers c.deref.result.now c.loop-i.rounds.items c.requires.home drawn c.in_ok-bases.ensures.bases
    (c.in_ok-numbers.ensures.numbers m (counts_of plan.dofs) (first_ranks m plan) plan.ranks 0 c.requires.spread.whole.dist) (c.deref.ensures.value ∙ c.in_ok-push-2.ensures.items) c.loop-i.invariant.1 in
    can-print s c.requires.spread c.loop-i.i c.args.home r c.in_ok-bases.bases c.in_ok-numbers.numbers c.deref.result.now is

pub returns-in_err-write_step : goal.returns-in_err-write_step
returns-in_err-write_step g c =
    let s = c.args.self.now in
    let m = s.task.now.mesh in
    let plan = s.task.now.plan.plan in
    let count = states-count m plan in
    let low : c.loop-i.i < length (states m plan) = omega (arith, c.loop-i-test.true, c.steps-i-end.ensures, count) in
    let once = built-once (task_view s.task.now) c.requires.spread.built in
    let r = c.in_ok-bases.round in
    let drawn = c.in_ok-bases.ensures.round m (counts_of plan.dofs) (first_ranks m plan) plan.ranks 0 c.requires.spread.whole.dist in
    let one = c.spread.ensures.kept ∙ c.in_ok-bases.ensures.kept ∙ kept-number (g.F.Fabric.kept c.loop-i.fabric) r drawn.tag in
    let is = step-of s c.loop-i.i c.args.home r c.in_ok-bases.bases c.in_ok-numbers.numbers c.deref.result.now c.loop-i.rounds.items c.requires.home drawn c.in_ok-bases.ensures.bases
    (c.in_ok-numbers.ensures.numbers m (counts_of plan.dofs) (first_ranks m plan) plan.ranks 0 c.requires.spread.whole.dist) (c.deref.ensures.value ∙ c.in_ok-push-2.ensures.items) c.loop-i.invariant.1 in
    stop-writing g.W.Sink.written g.W.Sink.flushed g.W.Sink.faults g.W.Sink.counts_failures_alone g.F.Fabric.kept (printed c.args.self.now) c.args.home once r drawn c.loop-i.i low c.args.out.now c.loop-i.out c.args.fabric.now c.loop-i.fabric c.spread.new.fabric c.loop-i.invariant.0 one
    c.from_residual-in_err-write_step.result c.in_err-write_step.field-0.0 c.write_step.new.out c.from_residual-in_err-write_step.ensures.1 (c.in_err-write_step.ensures c.args.home r is)

pub loop-i-preserved : goal.loop-i-preserved
loop-i-preserved g c =
    let s = c.args.self.now in
    let m = s.task.now.mesh in
    let plan = s.task.now.plan.plan in
    let count = states-count m plan in
    let low : c.loop-i.i < length (states m plan) = omega (arith, c.loop-i-test.true, c.steps-i-end.ensures, count) in
    let once = built-once (task_view s.task.now) c.requires.spread.built in
    let r = c.in_ok-bases.round in
    let drawn = c.in_ok-bases.ensures.round m (counts_of plan.dofs) (first_ranks m plan) plan.ranks 0 c.requires.spread.whole.dist in
    let one = c.spread.ensures.kept ∙ c.in_ok-bases.ensures.kept ∙ kept-number (g.F.Fabric.kept c.loop-i.fabric) r drawn.tag in
    let is = step-of s c.loop-i.i c.args.home r c.in_ok-bases.bases c.in_ok-numbers.numbers c.deref.result.now c.loop-i.rounds.items c.requires.home drawn c.in_ok-bases.ensures.bases
    (c.in_ok-numbers.ensures.numbers m (counts_of plan.dofs) (first_ranks m plan) plan.ranks 0 c.requires.spread.whole.dist) (c.deref.ensures.value ∙ c.in_ok-push-2.ensures.items) c.loop-i.invariant.1 in (
      done-next g.W.Sink.written g.W.Sink.flushed g.W.Sink.faults g.W.Sink.counts_failures_alone g.F.Fabric.kept (printed c.args.self.now) c.args.home once r drawn c.loop-i.i low c.args.out.now c.loop-i.out c.args.fabric.now c.loop-i.fabric c.spread.new.fabric c.loop-i.invariant.0 one
          c.write_step.new.out (c.in_ok-write_step.ensures c.args.home r is),
      c.clear.ensures.items ∙ later-none c.loop-i.i c.args.home,
    )

pub returns : goal.returns
returns g c =
    let s = c.args.self.now in
    let m = s.task.now.mesh in
    let plan = s.task.now.plan.plan in
    let count = states-count m plan in
    done-all g.W.Sink.written g.W.Sink.flushed g.W.Sink.faults g.W.Sink.counts_failures_alone g.F.Fabric.kept (printed c.args.self.now) c.args.home tt c.loop-i.i c.args.out.now c.loop-i.out c.args.fabric.now c.loop-i.fabric c.loop-i.invariant.0
    (omega (arith, c.loop-i-test.false, c.loop-i.auto.i-end, c.steps-i-end.ensures, count))
