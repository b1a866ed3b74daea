use Rattle.std.proofs.Common.{◌≡◌, ◌<◌, ℕ, List, length, ap, sym, ◌∙◌, subst}
use Rattle.std.specs.Prelude.{slice_index}
use Rattle.std.proofs.lemmas.List.{length-map}
use Rattle.input_defs.specs.Content.{Content}
use Rattle.mesh_check.proofs.element_places.Steps.{first-low, number-at}
use Rattle.mesh_check.proofs.element_places.places.ElementPlaces.first.Goals as goal

pub returns-clause-in_range : goal.returns-clause-in_range
returns-clause-in_range c =
    let es = c.self.inside.text.now.elements in
    let low : c.args.i < length es = subst (λ (m : Content). c.args.i < length m.elements) (sym c.self.view_is) c.requires in
    let count = number-at c.self.inside.firsts.items (length es) c.args.i c.index.result.now (ap (λ (xs : List ℕ). length xs) c.self.invariant.firsts_are ∙ length-map es _) low c.index.ensures in
    let is : slice_index _ c.args.i ≡ c.index.result.now = ap (λ xs. slice_index xs c.args.i) (sym c.self.invariant.firsts_are) ∙ count in
    subst (λ (m : Content). c.index.result.now < length m.elements) c.self.view_is (subst (λ n. n < length es) is (first-low es c.args.i low))
