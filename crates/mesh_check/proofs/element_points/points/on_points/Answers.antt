use Rattle.std.proofs.Common.{◌≡◌, ◌<◌, ◌++◌, ◌∷◌, [], Bool, false, length, map, take, sym, ap, ◌∙◌, subst, arith}
use Rattle.input_defs.specs.Content.{Content}
use Rattle.input_defs.specs.RightContent.{IsRight}
use Rattle.input_laws.specs.place_laws.Places.{element_at}
use Rattle.mesh_check.proofs.element_points.Reading.{map-more}
use Rattle.mesh_check.proofs.element_points.Answering.{is_on_point, on-flag, get_or-any}
use Rattle.mesh_check.proofs.element_points.points.on_points.Goals as goal

pub loop-i-preserved : goal.loop-i-preserved
loop-i-preserved c =
    let content : Content = c.args.places.now in
    let right : IsRight content = subst IsRight c.text.ensures c.nodes-nodes.ensures.right in
    let low : c.loop-i.i < length content.elements = omega (arith, c.elements-count.ensures, ap (λ (t : Content). length t.elements) c.text-2.ensures) in
    let value : Bool = c.index.result.now in
    let flag : value ≡ is_on_point content (element_at content.elements c.loop-i.i) =
    c.index.ensures ∙ get_or-any c.in_ok-found.found.items c.first.result value false (omega (arith, c.in_ok-found.ensures.each, c.first.ensures.in_range))
    ∙ on-flag content right c.in_ok-found.found.items c.in_ok-found.ensures.found c.loop-i.i c.first.result low c.first.ensures.first in
    c.in_ok-push.ensures.items ∙ ap (λ l. l ++ value ∷ []) c.loop-i.invariant ∙ ap (λ v. map (is_on_point content) (take c.loop-i.i content.elements) ++ v ∷ []) flag ∙ sym (map-more (is_on_point content) content.elements c.loop-i.i _ low)
