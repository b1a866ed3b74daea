use Rattle.std.proofs.Common.{◌∙◌, ap, arith}
use Rattle.std.specs.Result.{result_ok}
use Rattle.plan_reader.proofs.FormLemmas.{number_short, number-bound}
use Rattle.plan_reader.proofs.numbers.number.Goals as goal

pub returns-clause-value : goal.returns-clause-value
returns-clause-value c = c.ok.ensures.value ∙ (ap result_ok c.read_uint.ensures ∙ number_short c.args.token.now (omega arith))

pub returns-clause-bound : goal.returns-clause-bound
returns-clause-bound c = let e = c.ok.ensures.value ∙ (ap result_ok c.read_uint.ensures ∙ number_short c.args.token.now (omega arith)) in rw e (number-bound c.args.token.now (omega arith))
