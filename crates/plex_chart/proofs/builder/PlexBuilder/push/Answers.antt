use Rattle.std.proofs.Common.{◌∙◌, length, subst, sym}
use Rattle.std.proofs.lemmas.List.Elements.{All-from_recursion}
use Rattle.mesh_defs.specs.Diagram.{Covering, Diagram}
use Rattle.plex_chart.specs.Chart.{IsPoint}
use Rattle.plex_chart.specs.Strata.{diagram_of}
use Rattle.plex_chart.proofs.Chart.{FitsChart-push}
use Rattle.plex_chart.proofs.builder.PlexBuilder.push.Goals as goal

pub invariant_of-self-2 : goal.invariant_of-self-2
invariant_of-self-2 c =
    let new : Covering = record { poly = c.args.poly; covers = c.args.cone.now } in
    let point : IsPoint c.args.self.now (length c.args.self.now.points) new = record { place = c.requires.place; arity = c.requires.arity; below = All-from_recursion _ _ c.requires.below } in
    let before : IsPoint (diagram_of c.self.inside.strata c.self.inside.cones) (length c.self.inside.cones) new = subst (λ (g : Diagram). IsPoint g (length g.points) new) (sym (c.self.view_is ∙ c.reserve_at_first.ensures)) point in
    let fits = FitsChart-push (diagram_of c.self.inside.strata c.self.inside.cones) new c.self.invariant before in
    rw c.in_ok-push.ensures.ok fits
