use Rattle.std.proofs.Common.{sym, ap, ◌∙◌, Err}
use Rattle.input_defs.specs.declared.MshFault.TheVariants.{Unclosed}
use Rattle.msh_reader.proofs.Saying.{closing-ok, closing-err, closing-end}
use Rattle.msh_reader.proofs.headers.pass_closing.Goals as goal

pub returns-then-is_closing-clause-ok : goal.returns-then-is_closing-clause-ok
returns-then-is_closing-clause-ok c = λ parts. closing-ok _ _ parts _ _ _ c.in-Ok.ensures.block (sym c.is_closing.ensures ∙ c.if-is_closing.true)

pub returns-else-is_closing-clause-err : goal.returns-else-is_closing-clause-err
returns-else-is_closing-clause-err c = λ parts. closing-err _ _ parts _ _ _ c.in-Ok.ensures.block (sym c.is_closing.ensures ∙ c.if-is_closing.false)

pub returns-in-Err-clause-err : goal.returns-in-Err-clause-err
returns-in-Err-clause-err c = λ parts. closing-end _ _ parts _ c.in-Err.ensures.none ∙ ap (λ line. Err (Unclosed line)) (sym c.in-Err.ensures.end)
