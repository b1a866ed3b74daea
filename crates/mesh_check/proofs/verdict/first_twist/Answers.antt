use Rattle.std.proofs.Common.{◌≡◌, ◌<◌, length, take, Some, sym, ap, ap₂, ◌∙◌, subst, arith, false}
use Rattle.std.specs.Prelude.{option_map}
use Rattle.std.specs.List.{list_any}
use Rattle.plain_lists.proofs.Finding.{find-none}
use Rattle.input_defs.specs.Content.{Content, Element}
use Rattle.input_defs.specs.declared.MeshFault.TheVariants.{CellTwist}
use Rattle.input_defs.specs.Meshes.{is_twisted, first_at, twist}
use Rattle.mesh_check.proofs.element_places.Steps.{first-at, take-whole}
use Rattle.mesh_check.proofs.Twists.{first-is, find-at, none-more, element-of}
use Rattle.mesh_check.proofs.verdict.first_twist.Goals as goal

pub loop-i-preserved : goal.loop-i-preserved
loop-i-preserved c =
    let p = c.args.places.now in
    let same = ap (λ (m : Content). length m.elements) c.text-text.ensures in
    let low : c.loop-i.i < length p.elements = omega arith in
    none-more (is_twisted p) p.elements c.loop-i.i low c.loop-i.invariant (sym c.is_twisted.ensures ∙ c.if-is_twisted.false)

pub returns-then-is_twisted : goal.returns-then-is_twisted
unfolding twist
returns-then-is_twisted c =
    let p = c.args.places.now in
    let same = ap (λ (m : Content). length m.elements) c.text-text.ensures in
    let low : c.loop-i.i < length p.elements = omega arith in
    let e = element-of p c.text-text.result.now c.loop-i.i _ c.text-text.ensures c.element.ensures in
    let f = element-of p c.text-text.result.now c.first.result _ c.text-text.ensures c.element-then-is_twisted.ensures in
    let first = first-is p c.loop-i.i c.first.result low (c.first.ensures.first ∙ first-at p.elements c.loop-i.i low) in
    ap₂ (λ (x y : Element). Some (CellTwist x.number y.number)) (sym e) (sym (first ∙ f))
    ∙ ap (option_map (λ (x : Element). CellTwist x.number (first_at p x).number)) (sym (find-at (is_twisted p) p.elements c.loop-i.i low c.loop-i.invariant (sym c.is_twisted.ensures ∙ c.if-is_twisted.true)))

pub returns : goal.returns
unfolding twist
returns c =
    let p = c.args.places.now in
    let same = ap (λ (m : Content). length m.elements) c.text-text.ensures in
    let all : take c.loop-i.i p.elements ≡ p.elements = take-whole p.elements c.loop-i.i (omega arith) (omega arith) in
    ap (option_map (λ (x : Element). CellTwist x.number (first_at p x).number)) (sym (find-none (is_twisted p) p.elements (subst (λ es. list_any (is_twisted p) es ≡ false) all c.loop-i.invariant)))
