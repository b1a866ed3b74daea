use Rattle.std.proofs.Common.{◌<◌, Some, length, ap, sym, ◌∙◌, subst}
use Rattle.std.specs.Prelude.{option_map}
use Rattle.std.specs.List.{position}
use Rattle.input_defs.specs.Content.{Content}
use Rattle.input_defs.specs.Meshes.{greatest_dim}
use Rattle.input_laws.specs.place_laws.Places.{stands_on, cells_before}
use Rattle.input_laws.proofs.place_laws.Firsts.{cell-place, found-low}
use Rattle.mesh_check.proofs.element_places.Steps.{number-at}
use Rattle.mesh_check.proofs.element_places.places.ElementPlaces.cell_on.Goals as goal

pub returns-in-Some : goal.returns-in-Some
returns-in-Some c =
    let g = ap (λ d. position (stands_on d c.args.nodes.now) c.args.self.now.elements) (c.self.invariant.greatest_is ∙ ap (λ (m : Content). greatest_dim m) c.self.view_is) in
    let low : c.in-Some.first < length c.self.inside.text.now.elements = subst (λ (m : Content). c.in-Some.first < length m.elements) (sym c.self.view_is) (found-low (stands_on (greatest_dim c.args.self.now) c.args.nodes.now) c.args.self.now.elements c.in-Some.first (sym (c.in-Some.ensures ∙ g))) in
    let count = number-at c.self.inside.cells.before.items (length c.self.inside.text.now.elements) c.in-Some.first c.index.result.now c.self.invariant.each low c.index.ensures in
    ap Some (sym count ∙ c.self.invariant.before_are c.in-Some.first low ∙ ap (λ m. cells_before m c.in-Some.first) c.self.view_is) ∙ ap (option_map (cells_before c.args.self.now)) (c.in-Some.ensures ∙ g) ∙ sym (cell-place c.args.self.now c.args.nodes.now)

pub returns-in-None : goal.returns-in-None
returns-in-None c =
    let g = ap (λ d. position (stands_on d c.args.nodes.now) c.args.self.now.elements) (c.self.invariant.greatest_is ∙ ap (λ (m : Content). greatest_dim m) c.self.view_is) in
    ap (option_map (cells_before c.args.self.now)) (c.in-None.ensures ∙ g) ∙ sym (cell-place c.args.self.now c.args.nodes.now)
