use Rattle.std.proofs.Common.{sym, ◌∙◌}
use Rattle.msh_reader.proofs.Saying.{unknown-wrong, unknown-skipped, where-ok, where-err}
use Rattle.msh_reader.proofs.reading.pass_unknown.Goals as goal

pub returns-then-is_wrong_header-clause-err : goal.returns-then-is_wrong_header-clause-err
returns-then-is_wrong_header-clause-err c = λ parts. unknown-wrong _ parts _ _ _ _ c.requires (sym c.is_wrong_header.ensures ∙ c.if-is_wrong_header.true)

pub returns-clause-ok : goal.returns-clause-ok
returns-clause-ok c = where-ok c.skip_section.result (λ x passed. λ parts. unknown-skipped _ parts _ _ _ _ c.requires (sym c.is_wrong_header.ensures ∙ c.if-is_wrong_header.false) ∙ passed parts) c.skip_section.ensures.ok

pub returns-clause-err : goal.returns-clause-err
returns-clause-err c = where-err c.skip_section.result (λ e fault. λ parts. unknown-skipped _ parts _ _ _ _ c.requires (sym c.is_wrong_header.ensures ∙ c.if-is_wrong_header.false) ∙ fault parts) c.skip_section.ensures.err
