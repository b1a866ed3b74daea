use Rattle.std.proofs.Common.{ap, ◌∙◌}
use Rattle.std.specs.List.{position}
use Rattle.std.specs.HashMap as hash
use Rattle.plex_base.specs.Dim.{dim_number}
use Rattle.input_defs.specs.Content.{Content}
use Rattle.input_laws.specs.place_laws.Places.{stands_on, same_key}
use Rattle.mesh_check.proofs.element_places.places.ElementPlaces.first_on.Goals as goal

pub returns-in-Some : goal.returns-in-Some
returns-in-Some c =
    c.in-Some.ensures.value ∙ ap (hash.get same_key c.self.inside.by_key) c.key_on-key.ensures
    ∙ c.self.invariant.found (dim_number c.args.dim) c.args.nodes.now c.requires
    ∙ ap (λ (m : Content). position (stands_on (dim_number c.args.dim) c.args.nodes.now) m.elements) c.self.view_is

pub returns-in-None : goal.returns-in-None
returns-in-None c =
    c.in-None.ensures.value ∙ ap (hash.get same_key c.self.inside.by_key) c.key_on-key.ensures
    ∙ c.self.invariant.found (dim_number c.args.dim) c.args.nodes.now c.requires
    ∙ ap (λ (m : Content). position (stands_on (dim_number c.args.dim) c.args.nodes.now) m.elements) c.self.view_is
