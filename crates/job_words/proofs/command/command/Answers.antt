use Rattle.std.proofs.Common.{◌≡◌, ◌∙◌, ap₂, codes, rules, [], true}
use Rattle.std.proofs.lemmas.Result.{IfOk-weaker}
use Rattle.clap.specs.Simple.{app_of, new_app, with_rule}
use Rattle.clap.specs.Walk.{rule_of}
use Rattle.input_laws.specs.command_laws.Command.{mesh_rule, option_rule, summary_rule}
use Rattle.job_words.proofs.command.command.Goals as goal

pub returns : goal.returns
returns c =
    let plan : rule_of c.action-plan.result ≡ option_rule (codes "plan") = search rules in
    let make : rule_of c.action-make.result ≡ option_rule (codes "make") = search rules in
    let summary : rule_of c.action-summary.result ≡ summary_rule = search rules in
    let mesh : rule_of c.action-mesh.result ≡ mesh_rule = search rules in
    let start : app_of c.disable_help_flag.result ≡ record { top = record (new_app (codes "plexrun")).top { no_binary_name = true; disable_help_flag = true }; subs = [] } = search rules in
    let one = c.in_ok-arg.ensures.shape (search rules) ∙ ap₂ with_rule start plan in
    let two = c.in_ok-arg-2.ensures.shape (search rules) ∙ ap₂ with_rule one make in
    let three = c.in_ok-arg-3.ensures.shape (search rules) ∙ ap₂ with_rule two summary in
    IfOk-weaker c.arg-4.result _ _ (λ r h. h.shape (search rules) ∙ ap₂ with_rule three mesh) c.arg-4.ensures
