use Rattle.std.proofs.Common.{◌≡◌, length, map, sym, ap, subst, ◌∙◌}
use Rattle.sf_fabric.specs.script.Walks.{Course, taken}
use Rattle.sf_fabric.proofs.script.Taken.{taken-whole}
use Rattle.sf_fabric.proofs.script.walk.Walk.into_parts.Goals as goal

pub returns : goal.returns
returns c =
    let full : map length (taken c.self.inside.done.items c.self.inside.got) ≡ map length c.self.inside.got = subst (λ (w : Course). map length w.at.got ≡ w.rooms) (sym c.self.view_is) c.requires in (
      ap (λ (w : Course). w.at.words) c.self.view_is,
      sym (taken-whole c.self.inside.done.items c.self.inside.got c.self.invariant.each full) ∙ ap (λ (w : Course). w.at.got) c.self.view_is,
    )
