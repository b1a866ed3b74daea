use Rattle.std.proofs.Common.{◌≡◌, ◌==◌, Some, sym, ap, ◌∙◌, subst}
use Rattle.std.specs.Prelude.{position, option_and_then}
use Rattle.std.specs.List.{slice_get}
use Rattle.std.proofs.lemmas.List.Quantifiers.{position-Some}
use Rattle.std.proofs.lemmas.Option.{get_or_from_slice_get}
use Rattle.plain_lists.proofs.Each.{all_at}
use Rattle.input_defs.specs.Content.{Element, Content}
use Rattle.input_defs.specs.RightContent.{IsRight}
use Rattle.input_defs.specs.Meshes.{same_nodes, cell_elements}
use Rattle.input_laws.specs.place_laws.Places.{IsPlace}
use Rattle.input_laws.proofs.place_laws.Keys.{right-places}
use Rattle.mesh_check.proofs.data_rows.Numbers.{found-by_number, first-of_number, none-of_number}
use Rattle.mesh_check.proofs.data_rows.naming.cell_named.Goals as goal

pub cell_on-requires : goal.cell_on-requires
cell_on-requires c =
    let content : Content = c.args.places.now in
    let e : Element = record { number = c.element.result.number; kind = c.element.result.kind; physical = c.element.result.physical; nodes = c.element.result.nodes.now } in
    let at : slice_get content.elements c.in-Some.first ≡ Some e = ap (λ (t : Content). slice_get t.elements c.in-Some.first) (sym c.text-text.ensures) ∙ c.element.ensures in
    let found = found-by_number content c.args.number c.place.result (c.place.ensures ∙ ap (position (λ m. m == c.args.number)) c.requires) ∙ c.in-Some.is in
    let low = (position-Some (λ (x : Element). x.number == c.args.number) content.elements c.in-Some.first e found).0 in
    subst (λ (x : Element). IsPlace x.nodes) (get_or_from_slice_get content.elements c.in-Some.first e e at)
    (all_at (λ (x : Element). IsPlace x.nodes) content.elements c.in-Some.first e (right-places content (subst IsRight c.text-text.ensures c.nodes-nodes.ensures.right)) low)

pub returns-in-Some : goal.returns-in-Some
returns-in-Some c =
    let content : Content = c.args.places.now in
    let e : Element = record { number = c.element.result.number; kind = c.element.result.kind; physical = c.element.result.physical; nodes = c.element.result.nodes.now } in
    let at : slice_get content.elements c.in-Some.first ≡ Some e = ap (λ (t : Content). slice_get t.elements c.in-Some.first) (sym c.text-text.ensures) ∙ c.element.ensures in
    let found = found-by_number content c.args.number c.place.result (c.place.ensures ∙ ap (position (λ m. m == c.args.number)) c.requires) ∙ c.in-Some.is in
    c.cell_on.ensures ∙ sym (ap (option_and_then (λ (x : Element). position (same_nodes x) (cell_elements content))) (first-of_number content c.args.number c.in-Some.first e found at))

pub returns-in-None : goal.returns-in-None
returns-in-None c =
    let content : Content = c.args.places.now in
    let found = found-by_number content c.args.number c.place.result (c.place.ensures ∙ ap (position (λ m. m == c.args.number)) c.requires) ∙ c.in-None.is in
    sym (ap (option_and_then (λ (x : Element). position (same_nodes x) (cell_elements content))) (none-of_number content c.args.number found))
