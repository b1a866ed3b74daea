use Rattle.std.proofs.Common.{◌≡◌, ◌≢◌, ℕ, length, sym, ap, ◌∙◌, subst}
use Rattle.std.specs.List.{AllPairs}
use Rattle.mesh_defs.specs.Tables.{corner_count}
use Rattle.mesh_defs.specs.Orientation.{relative}
use Rattle.input_defs.specs.Content.{Element}
use Rattle.input_defs.specs.RightContent.{IsRight}
use Rattle.input_defs.specs.Meshes.{poly, dim, greatest_dim}
use Rattle.input_laws.specs.place_laws.Places.{element_at}
use Rattle.mesh_check.proofs.element_places.Steps.{first-at}
use Rattle.mesh_check.proofs.Twists.{right-at, nodes-count, different, first-count, first-is, element-of, untwisted, twisted}
use Rattle.mesh_check.proofs.verdict.is_twisted.Goals as goal

pub relative-requires-clause-from_corners : goal.relative-requires-clause-from_corners
relative-requires-clause-from_corners c =
    let p = c.args.places.now in
    let right = subst IsRight c.text-text.ensures c.nodes-nodes.ensures.right in
    let e = element-of p c.text-text.result.now c.args.i _ c.text-text.ensures c.element-element.ensures in
    let f = element-of p c.text-text.result.now c.first.result _ c.text-text.ensures c.element-first.ensures in
    ap (λ (x : Element). length x.nodes) (sym f) ∙ first-count p c.args.i c.first.result c.requires (c.first.ensures.first ∙ first-at p.elements c.args.i c.requires)
    ∙ nodes-count _ _ (right-at p right c.args.i c.requires) ∙ ap (λ x. corner_count (poly x)) e ∙ ap corner_count (sym c.poly_of_type.ensures)

pub relative-requires-clause-to_corners : goal.relative-requires-clause-to_corners
relative-requires-clause-to_corners c =
    let p = c.args.places.now in
    let right = subst IsRight c.text-text.ensures c.nodes-nodes.ensures.right in
    let e = element-of p c.text-text.result.now c.args.i _ c.text-text.ensures c.element-element.ensures in
    ap (λ (x : Element). length x.nodes) (sym e) ∙ nodes-count _ _ (right-at p right c.args.i c.requires) ∙ ap (λ x. corner_count (poly x)) e ∙ ap corner_count (sym c.poly_of_type.ensures)

pub relative-requires-clause-differ : goal.relative-requires-clause-differ
relative-requires-clause-differ c =
    let p = c.args.places.now in
    let right = subst IsRight c.text-text.ensures c.nodes-nodes.ensures.right in
    let f = element-of p c.text-text.result.now c.first.result _ c.text-text.ensures c.element-first.ensures in
    subst (λ (x : Element). AllPairs (λ (a b : ℕ). a ≢ b) x.nodes) f (different _ (right-at p right c.first.result c.first.ensures.in_range).nodes_differ)

pub returns-then-number : goal.returns-then-number
returns-then-number c =
    let p = c.args.places.now in
    let e = element-of p c.text-text.result.now c.args.i _ c.text-text.ensures c.element-element.ensures in
    untwisted p (element_at p.elements c.args.i) (λ same. c.if-number.true (c.number.ensures ∙ c.dim_of_type.ensures ∙ ap dim (sym e) ∙ same ∙ sym c.greatest_dim.ensures ∙ sym c.number-2.ensures))

pub returns : goal.returns
returns c =
    let p = c.args.places.now in
    let e = element-of p c.text-text.result.now c.args.i _ c.text-text.ensures c.element-element.ensures in
    let f = element-of p c.text-text.result.now c.first.result _ c.text-text.ensures c.element-first.ensures in
    let top : dim (element_at p.elements c.args.i) ≡ greatest_dim p = ap dim e ∙ sym c.dim_of_type.ensures ∙ sym c.number.ensures ∙ c.if-number.false ∙ c.number-2.ensures ∙ c.greatest_dim.ensures in
    twisted p (element_at p.elements c.args.i) _ c.relative.result c.is_none.result top (first-is p c.args.i c.first.result c.requires (c.first.ensures.first ∙ first-at p.elements c.args.i c.requires) ∙ f) c.is_none.ensures
    (c.relative.ensures.value ∙ ap (λ q. relative q c.element-first.result.nodes.now c.element-element.result.nodes.now) c.poly_of_type.ensures ∙ ap (λ (x : Element). relative (poly x) c.element-first.result.nodes.now x.nodes) (sym e))
