use Rattle.std.proofs.Common.{◌≡◌, [], length, ap, refl, arith}
use Rattle.std.specs.Prelude.{option_map}
use Rattle.std.proofs.lemmas.Result.{err_from_is_err_and}
use Rattle.input_defs.specs.line_defs.Rows.{lines_of}
use Rattle.input_defs.specs.Plans.{plan_of}
use Rattle.plan_reader.specs.Reading.{lines_left}
use Rattle.plan_reader.proofs.Lines.{length-lines_of}
use Rattle.plan_reader.proofs.Loop.{plan_start, plan_more, plan_fails, plan_ends, finished, left_bound}
use Rattle.plan_reader.proofs.reading.read_plan.Goals as goal

pub loop-left-init : goal.loop-left-init
loop-left-init c = record {
  plan = rw c.new-draft.ensures (plan_start c.args.bytes.now);
  lines = omega arith;
  short = omega arith;
}

pub overflow_add-line : goal.overflow_add-line
overflow_add-line c = omega (arith, c.loop-left.invariant.lines, length-lines_of c.args.bytes.now, c.requires)

pub returns-in_err-read_line-clause-fault : goal.returns-in_err-read_line-clause-fault
returns-in_err-read_line-clause-fault c =
    let p = err_from_is_err_and c.from_residual.result c.from_residual.ensures.1 in
    let so_far = rw c.in-Some.is at c.loop-left.invariant.plan in
    rw (p.1, p.2) (λ other. plan_fails _ c.loop-left.draft _ _ _ (lines_of c.in-Some.rest.now) _ _ c.split_line.ensures.lines (c.in_err-read_line.ensures other) so_far)

pub loop-left-preserved : goal.loop-left-preserved
loop-left-preserved c =
    let plan = rw c.in-Some.is at c.loop-left.invariant.plan in
    let lines = rw c.in-Some.is at c.loop-left.invariant.lines in
    let short = rw c.in-Some.is at c.loop-left.invariant.short in
    record {
      plan = plan_more _ c.loop-left.draft _ _ _ (lines_of c.in-Some.rest.now) _ _ c.split_line.ensures.lines c.in_ok-read_line.ensures plan;
      lines = omega (arith, lines, ap length c.split_line.ensures.lines);
      short = left_bound c.split_line.result.1 _ _ c.split_line.ensures.shorter short;
    }

pub returns-clause-plan : goal.returns-clause-plan
returns-clause-plan c =
    let left : lines_left (option_map (λ rest. rest.now) c.loop-left.left) ≡ [] = rw c.in_default.is refl in
    (finished c.finish.result (plan_of c.args.bytes.now) _ c.finish.ensures (plan_ends _ c.loop-left.draft _ c.loop-left.line _ _ left c.loop-left.invariant.lines c.loop-left.invariant.plan)).0

pub returns-clause-fault : goal.returns-clause-fault
returns-clause-fault c =
    let left : lines_left (option_map (λ rest. rest.now) c.loop-left.left) ≡ [] = rw c.in_default.is refl in
    (finished c.finish.result (plan_of c.args.bytes.now) _ c.finish.ensures (plan_ends _ c.loop-left.draft _ c.loop-left.line _ _ left c.loop-left.invariant.lines c.loop-left.invariant.plan)).1
