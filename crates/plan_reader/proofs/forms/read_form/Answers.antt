use Rattle.std.proofs.Common.{refl}
use Rattle.input_defs.specs.line_defs.Rows.{tokens_of}
use Rattle.plan_reader.proofs.FormLemmas.{ranks_form}
use Rattle.plan_reader.proofs.forms.read_form.Goals as goal

pub returns-in_default-clause-form : goal.returns-in_default-clause-form
returns-in_default-clause-form c =
    rw (ranks_form c.args.word.now (tokens_of c.args.line.now) c.as_slice.result.now c.eq.result c.as_slice.ensures c.eq.ensures c.if-eq.true, ← c.sole_number.ensures.value, c.in_default.is) refl

pub returns-then-eq-clause-form : goal.returns-then-eq-clause-form
returns-then-eq-clause-form c =
    rw (ranks_form c.args.word.now (tokens_of c.args.line.now) c.as_slice.result.now c.eq.result c.as_slice.ensures c.eq.ensures c.if-eq.true, ← c.sole_number.ensures.value, c.in-Some.is) refl
