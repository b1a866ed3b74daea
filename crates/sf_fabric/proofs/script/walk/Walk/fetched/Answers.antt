use Rattle.std.proofs.Common.{◌<◌, [], length, get_or, arith, sym, ap, subst, ◌∙◌}
use Rattle.std.proofs.lemmas.Grind.{get_or_default_zero}
use Rattle.sf_fabric.specs.script.Walks.{Course, taken}
use Rattle.sf_fabric.proofs.script.Taken.{length-taken, length-there}
use Rattle.sf_fabric.proofs.script.walk.Walk.fetched.Goals as goal

pub index-requires : goal.index-requires
index-requires c =
    let listed : c.args.rank < length (taken c.self.inside.done.items c.self.inside.got) = subst (λ (w : Course). c.args.rank < length w.at.got) (sym c.self.view_is) c.requires in
    omega (arith, listed, length-taken c.self.inside.done.items c.self.inside.got c.self.invariant.each, c.self.invariant.each, c.self.inside.done.ok.0)

pub returns : goal.returns
returns c =
    let listed : c.args.rank < length (taken c.self.inside.done.items c.self.inside.got) = subst (λ (w : Course). c.args.rank < length w.at.got) (sym c.self.view_is) c.requires in
    c.index.ensures
    ∙ get_or_default_zero c.self.inside.done.items c.args.rank c.index.result.now (omega (arith, listed, length-taken c.self.inside.done.items c.self.inside.got c.self.invariant.each, c.self.invariant.each))
    ∙ sym (length-there c.self.inside.done.items c.self.inside.got c.self.invariant c.args.rank)
    ∙ ap (λ (w : Course). length (get_or w.at.got c.args.rank [])) c.self.view_is
