use Rattle.std.proofs.Common.{◌∙◌, ap, arith, length-append, [], ◌∷◌}
use Rattle.input_defs.specs.line_defs.Rows.{tokens_of}
use Rattle.input_defs.specs.Plans.{plan_numbers}
use Rattle.plan_reader.proofs.FormLemmas.{behind, numbers-more}
use Rattle.plan_reader.proofs.numbers.numbers.Goals as goal

pub loop-first-preserved : goal.loop-first-preserved
loop-first-preserved c = record {
  read = rw c.in_ok-push.ensures.items (c.loop-first.invariant.read ∙ (ap (behind c.loop-first.numbers.items) (ap plan_numbers c.in-Some.ensures.tokens) ∙ numbers-more c.loop-first.numbers.items c.in-Some.first.now _ (tokens_of c.in-Some.after.now) c.in-Some-number.ensures.value));
  bound = rw c.in_ok-push.ensures.items (omega (arith, length-append c.loop-first.numbers.items (c.in-Some-number.next ∷ []), c.in-Some.ensures.shorter, c.loop-first.invariant.bound));
}
