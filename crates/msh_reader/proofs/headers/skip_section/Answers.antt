use Rattle.std.proofs.Common.{sym, ap, ◌∙◌, Err, arith}
use Rattle.input_defs.specs.declared.MshFault.TheVariants.{Unclosed}
use Rattle.msh_reader.proofs.Saying.{skip-done, skip-more, skip-end, fewer}
use Rattle.msh_reader.proofs.headers.skip_section.Goals as goal

pub returns-then-is_closing-clause-ok : goal.returns-then-is_closing-clause-ok
returns-then-is_closing-clause-ok c = λ parts. c.loop-next.invariant.left parts ∙ skip-done _ _ parts _ _ _ c.in-Ok.ensures.block (sym c.is_closing.ensures ∙ c.if-is_closing.true)

pub loop-next-preserved : goal.loop-next-preserved
loop-next-preserved c =
    let less = fewer _ _ _ c.in-Ok.ensures.block in
    let before = c.loop-next.invariant.fewer in
    record {
      same = c.next_header.ensures.file ∙ c.loop-next.invariant.same;
      left = λ parts. c.loop-next.invariant.left parts ∙ skip-more _ _ parts _ _ _ c.in-Ok.ensures.block (sym c.is_closing.ensures ∙ c.if-is_closing.false);
      fewer = omega (arith, less, before);
    }

pub returns-in-Err-clause-err : goal.returns-in-Err-clause-err
returns-in-Err-clause-err c = λ parts. c.loop-next.invariant.left parts ∙ skip-end _ _ parts _ c.in-Err.ensures.none ∙ ap (λ line. Err (Unclosed line)) (sym (c.in-Err.ensures.end ∙ c.loop-next.invariant.same))
