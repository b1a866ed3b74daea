use Rattle.std.proofs.Common.{◌≡◌, ◌+◌, ◌<◌, ℕ, List, [], length, get_or, drop, fold, sym, ap, ◌∙◌, length-drop, arith}
use Rattle.step_report.proofs.Summing.{dofs-more}
use Rattle.step_report.proofs.sums.add_dofs.Goals as goal

pub loop-i-preserved : goal.loop-i-preserved
loop-i-preserved c =
    let fields = c.args.local.now.fields in
    let low : c.loop-i.i < length (drop c.args.sections fields) = omega (arith, length-drop c.args.sections fields) in
    let words : c.at.result.now ≡ get_or (get_or fields (c.args.sections + c.loop-i.i) []) c.args.p [] = c.at.ensures ∙ ap (λ (f : List (List ℕ)). get_or f c.args.p []) c.field.ensures in
    c.in_ok-sum.ensures ∙ ap (λ (x : List ℕ). fold ◌+◌ c.loop-i.sum x) words
    ∙ ap (λ (n : ℕ). fold ◌+◌ n (get_or (get_or fields (c.args.sections + c.loop-i.i) []) c.args.p [])) c.loop-i.invariant ∙ sym (dofs-more c.args.sum fields c.args.sections c.loop-i.i c.args.p low)
