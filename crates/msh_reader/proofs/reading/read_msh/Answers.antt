use Rattle.std.proofs.Common.{sym, ap, ◌∙◌}
use Rattle.input_defs.specs.Files.{Opening, finished}
use Rattle.input_laws.proofs.RightFiles.{content-right}
use Rattle.msh_reader.specs.Taking.{parts_view}
use Rattle.msh_reader.proofs.Saying.{where-ok, where-err}
use Rattle.msh_reader.proofs.WholeFiles.{content-begins, content-ends}
use Rattle.msh_reader.proofs.reading.read_msh.Goals as goal

pub loop-header-init : goal.loop-header-init
loop-header-init c = content-begins c.args.bytes.now c.new-scan.result _ c.new-scan.ensures c.new-parts.ensures

pub returns-in-Err-clause-ok : goal.returns-in-Err-clause-ok
returns-in-Err-clause-ok c = where-ok c.finish.result (λ text is. sym c.loop-header.invariant ∙ content-ends _ Opening (parts_view c.loop-header.parts) _ c.in-Err.ensures.none ∙ ap (λ line. finished line Opening (parts_view c.loop-header.parts)) (sym c.in-Err.ensures.end) ∙ is) c.finish.ensures.ok

pub returns-in-Err-clause-err : goal.returns-in-Err-clause-err
returns-in-Err-clause-err c = where-err c.finish.result (λ e is. λ ne. sym c.loop-header.invariant ∙ content-ends _ Opening (parts_view c.loop-header.parts) _ c.in-Err.ensures.none ∙ ap (λ line. finished line Opening (parts_view c.loop-header.parts)) (sym c.in-Err.ensures.end) ∙ is) c.finish.ensures.err

pub finish-requires : goal.finish-requires
finish-requires c = λ text is. content-right c.args.bytes.now text (sym c.loop-header.invariant ∙ content-ends _ Opening (parts_view c.loop-header.parts) _ c.in-Err.ensures.none ∙ ap (λ line. finished line Opening (parts_view c.loop-header.parts)) (sym c.in-Err.ensures.end) ∙ is)
