use Rattle.std.proofs.Common.{◌≡◌, ◌∙◌, sym, ap}
use Rattle.std.specs.Prelude.{Ok, None, option_map}
use Rattle.std.proofs.lemmas.Result.{IfOk-at_ok}
use Rattle.input_defs.specs.line_defs.Rows.{tokens_of}
use Rattle.input_defs.specs.Plans.{form_of}
use Rattle.plan_reader.specs.Reading.{form_view}
use Rattle.plan_reader.proofs.Takes.{mapped, no_form}
use Rattle.plan_reader.proofs.draft.Draft.read_line.Goals as goal

pub returns-in_default-2 : goal.returns-in_default-2
returns-in_default-2 c =
    let found : c.read_form.result ≡ Ok c.in_ok-form.field-0 = mapped c.read_form.result c.map_err.result _ c.in_ok-form.field-0 c.map_err.ensures.cases c.in_ok-form.was in
    let seen = IfOk-at_ok (λ form. option_map form_view form ≡ form_of c.in-Some.word.now (tokens_of c.in-Some.rest.now)) found c.read_form.ensures.form in
    let none : form_of c.in-Some.word.now (tokens_of c.in-Some.rest.now) ≡ None = sym seen ∙ ap (option_map form_view) c.in_default-2.is in
    λ _. no_form c.args.self.now c.args.line _ c.in-Some.word.now (tokens_of c.in-Some.rest.now) c.in-Some.ensures.tokens c.if-word-eq35.false none
