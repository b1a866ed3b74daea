use Rattle.std.proofs.Common.{◌≡◌, ◌<◌, ◌≤◌, ◌+◌, ℕ, List, take, drop, subst, sym, ap, ap₂, ◌∙◌, length, rules, arith}
use Rattle.std.specs.Prelude.{Some}
use Rattle.std.specs.List.{slice_get}
use Rattle.std.proofs.lemmas.Int.{to_z-of_z}
use Rattle.std.specs.Int.{w32}
use mir.Val.{SFits}
use Rattle.input_defs.specs.Content.{Element}
use Rattle.plex_base.proofs.FlatRows.{rows-length}
use Rattle.msh_reader.specs.declared.element_list.FileElement.{FileElement}
use Rattle.msh_reader.specs.Views.{width, element_view, element_views}
use Rattle.msh_reader.proofs.ElementRows.{nodes-within, element-at}
use Rattle.msh_reader.proofs.element_list.ElementList.get.Goals as goal

inside : (t : List Element) (es : List FileElement) (corners : List ℕ) (i : ℕ) → element_views es corners ≡ t → i < length t → i < length es
inside t es corners i is below = let counts = rows-length {R = Element} width element_view es corners in let same : length (element_views es corners) ≡ length t = ap length is in omega (arith, counts, same)

pub index-element-requires : goal.index-element-requires
index-element-requires c = let below = inside c.args.self.now c.self.inside.elements.items c.self.inside.corners.items c.args.i c.self.view_is c.requires in rw c.self.inside.elements.ok.0 below

pub nodes_at-requires : goal.nodes_at-requires
nodes_at-requires c =
    let below = inside c.args.self.now c.self.inside.elements.items c.self.inside.corners.items c.args.i c.self.view_is c.requires in
    let fits = nodes-within c.self.inside.elements.items c.self.inside.corners.items c.args.i c.index-element.result.now c.self.invariant below in
    rw (c.deref.ensures.value, c.corner_count.ensures.count) (subst (λ (e : FileElement). e.start + width e ≤ length c.self.inside.corners.items) (sym c.index-element.ensures) fits)

pub returns : goal.returns
returns c =
    let below = inside c.args.self.now c.self.inside.elements.items c.self.inside.corners.items c.args.i c.self.view_is c.requires in
    let at = element-at c.self.inside.elements.items c.self.inside.corners.items c.args.i c.index-element.result.now c.self.invariant below in
    let fits : SFits w32 c.index-element.result.now.physical = search rules in
    rw (to_z-of_z w32 c.index-element.result.now.physical fits)
    (ap (λ t. slice_get t c.args.i) (sym c.self.view_is)
    ∙ at
    ∙ ap (λ (e : FileElement). Some (element_view e (take (width e) (drop e.start c.self.inside.corners.items)))) (sym c.index-element.ensures)
    ∙ ap (λ ns. Some (element_view c.index-element.result.now ns)) (sym (c.nodes_at.ensures ∙ ap₂ (λ n xs. take n (drop c.index-element.result.now.start xs)) c.corner_count.ensures.count c.deref.ensures.value)))
