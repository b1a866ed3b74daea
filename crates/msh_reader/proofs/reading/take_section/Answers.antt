use Rattle.std.proofs.Common.{◌≡◌, ◌≢◌, Some, None, Err, refl, sym, ap, subst, ◌∙◌}
use Rattle.std.specs.Prelude.{Option}
use Rattle.input_defs.specs.declared.MshFault.{MshFault}
use Rattle.input_defs.specs.Files.{cut_short, Opening, Closing, said}
use Rattle.input_laws.specs.reading_laws.Lexemes.{beyond}
use Rattle.input_laws.specs.reading_laws.Blocks.{blocks, last_line}
use Rattle.msh_reader.specs.declared.trouble.Trouble.TheVariants.{Fault, Ended}
use Rattle.msh_reader.specs.Going.{fault_where, no_memory}
use Rattle.msh_reader.specs.Headers.{known_of}
use Rattle.msh_reader.specs.Taking.{parts_view}
use Rattle.msh_reader.proofs.Saying.{section-misplaced, where-ok, where-err}
use Rattle.msh_reader.proofs.WholeFiles.{ended_at, body-taken, body-fault}
use Rattle.msh_reader.proofs.reading.take_section.Goals as goal

pub returns-in-Some-clause-err : goal.returns-in-Some-clause-err
returns-in-Some-clause-err c = λ ne. section-misplaced _ _ _ _ _ _ (known_of c.args.section) c.in-Some.fault c.requires (sym c.misplaced.ensures ∙ c.in-Some.is)

-- there was no cause against it
none-is : (o : Option MshFault) → ((x : MshFault) → o ≡ Some x → ⊥) → o ≡ None
none-is (Some x) not = absurd (not x refl)
none-is None not = refl

same-fault : (a b : MshFault) → Fault a ≡ Fault b → a ≡ b
same-fault a b is = cc is

apart : Ended ≡ no_memory → ⊥
apart is = cc is

pub returns-in-Ok-clause-ok : goal.returns-in-Ok-clause-ok
returns-in-Ok-clause-ok c =
    let right = sym c.misplaced.ensures ∙ none-is c.misplaced.result c.in_default.not-Some in
    where-ok c.pass_closing.result (λ x passed.
    body-taken (known_of c.args.section) _ (parts_view c.read.new.self) c.args.header.name.now c.args.header.line c.args.scan.now c.requires right c.in-Ok.ensures.takes
    ∙ subst (λ b. said (last_line b) (Closing c.args.header.name.now) (parts_view c.read.new.self) (blocks b) ≡ said (last_line b) Opening (parts_view c.read.new.self) (blocks (beyond c.pass_closing.new.scan))) c.read.ensures.stays (passed (parts_view c.read.new.self))) c.pass_closing.ensures.ok

pub returns-in-Ok-clause-err : goal.returns-in-Ok-clause-err
returns-in-Ok-clause-err c =
    let right = sym c.misplaced.ensures ∙ none-is c.misplaced.result c.in_default.not-Some in
    where-err c.pass_closing.result (λ e fault. λ ne.
    body-taken (known_of c.args.section) _ (parts_view c.read.new.self) c.args.header.name.now c.args.header.line c.args.scan.now c.requires right c.in-Ok.ensures.takes
    ∙ subst (λ b. said (last_line b) (Closing c.args.header.name.now) (parts_view c.read.new.self) (blocks b) ≡ Err e) c.read.ensures.stays (fault (parts_view c.read.new.self))) c.pass_closing.ensures.err

pub returns-in-Err-Fault-clause-err : goal.returns-in-Err-Fault-clause-err
returns-in-Err-Fault-clause-err c =
    let right = sym c.misplaced.ensures ∙ none-is c.misplaced.result c.in_default.not-Some in
    λ ne.
    let other : c.in-Err-Fault.field-0 ≢ no_memory = λ is. ne (same-fault _ _ (sym c.in-Err-Fault.field-0-is ∙ is)) in
    body-fault (known_of c.args.section) _ c.in-Err-Fault.field-0 c.args.header.name.now c.args.header.line c.args.scan.now c.requires right c.in-Err-Fault.ensures.takes other
    ∙ ap (λ t. Err (fault_where (ended_at c.args.header.name.now c.args.scan.now) t)) c.in-Err-Fault.field-0-is

pub returns-in-Err-Ended-clause-err : goal.returns-in-Err-Ended-clause-err
returns-in-Err-Ended-clause-err c =
    let right = sym c.misplaced.ensures ∙ none-is c.misplaced.result c.in_default.not-Some in
    let other : c.in-Err-Ended.field-0 ≢ no_memory = λ is. apart (sym c.in-Err-Ended.field-0-is ∙ is) in
    λ ne.
    body-fault (known_of c.args.section) _ c.in-Err-Ended.field-0 c.args.header.name.now c.args.header.line c.args.scan.now c.requires right c.in-Err-Ended.ensures.takes other
    ∙ ap (λ t. Err (fault_where (ended_at c.args.header.name.now c.args.scan.now) t)) c.in-Err-Ended.field-0-is
    ∙ ap (λ f. Err f) (sym (c.cut_short.ensures ∙ ap (λ b. cut_short (last_line b) c.args.header.name.now (blocks b)) c.read.ensures.stays))
