use Rattle.std.proofs.Common.{◌≡◌, ◌++◌, ◌∙◌, [], ℕ, List, length, sym, ap, Ok, ◌+◌, arith}
use Rattle.std.specs.Prelude.{flat_map, get_or}
use Rattle.plain_lists.specs.Lists.{below}
use Rattle.walk_defs.specs.step_defs.Points.{words_text, fields_of}
use Rattle.step_report.proofs.Going.{below-more, texts-by_places, appended-second}
use Rattle.step_report.proofs.tails.append_fields.Goals as goal

pub loop-i-preserved : goal.loop-i-preserved
loop-i-preserved c =
    let fields = c.args.local.now.fields in
    let text : ℕ → List ℕ = λ i. words_text c.args.sections i (get_or (get_or fields i []) c.args.p []) in
    let words : c.at.result.now ≡ get_or (get_or fields c.loop-i.i []) c.args.p [] = c.at.ensures ∙ ap (λ (f : List (List ℕ)). get_or f c.args.p []) c.field.ensures in
    let told = rw words at c.in_ok-append_words.ensures in
    appended-second {A = Unit {0}} {E = Unit {0}} (Ok tt) c.args.line.now.items (flat_map text (below c.loop-i.i)) (text c.loop-i.i) (flat_map text (below (c.loop-i.i + 1))) _ _ (below-more text c.loop-i.i) c.loop-i.invariant told

pub returns : goal.returns
unfolding fields_of
returns c =
    let fields = c.args.local.now.fields in
    let all : c.loop-i.i ≡ length fields = omega arith in
    c.loop-i.invariant ∙ ap (λ (t : List ℕ). c.args.line.now.items ++ t)
    (ap (λ (n : ℕ). flat_map (λ i. words_text c.args.sections i (get_or (get_or fields i []) c.args.p [])) (below n)) all ∙ sym (texts-by_places (λ f. words_text c.args.sections f.0 (get_or f.1 c.args.p [])) fields []))
