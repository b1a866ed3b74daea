use Rattle.std.proofs.Common.{◌<◌, map, sym, ap, subst, ◌∙◌}
use Rattle.std.specs.List.{AllByRecursion}
use Rattle.rank_defs.specs.Ranks.{least}
use Rattle.orient_iface.specs.iface_twist.Least.{number_of, numbers, greatest}
use Rattle.orient_iface.proofs.Agreed.{own-keys, whole, if-ok}
use Rattle.orient_iface.proofs.agreeing.agreed_twist.Goals as goal

-- src/agreeing.rt:52:5
pub least_twist-requires : goal.least_twist-requires
least_twist-requires g c = own-keys c.args.drawings.now c.deref.result.now c.requires (c.deref.ensures.value ∙ c.in_ok-own.ensures.drawn)
    (subst (λ own. AllByRecursion (λ k. k < greatest) (numbers own)) (sym c.deref.ensures.value) (c.in_ok-own.ensures.low c.requires.m c.requires.a c.requires.n c.requires.are.mesh c.requires.are.drawings))

-- src/agreeing.rt:41:1
pub returns-clause-twist : goal.returns-clause-twist
returns-clause-twist g c = if-ok _ _ c.least_twist.result
    (λ key twist m a n are. twist m n a are.assignment.each (ap (map number_of) c.deref.ensures.value ∙ c.in_ok-own.ensures.twists m a n are.drawings))
    c.least_twist.ensures.twist

-- src/agreeing.rt:41:1
pub returns-clause-whole : goal.returns-clause-whole
returns-clause-whole g c = if-ok _ _ c.least_twist.result
    (λ key is none. whole c.args.drawings.now (sym (is ∙ ap (λ own. least (numbers own)) (c.deref.ensures.value ∙ c.in_ok-own.ensures.drawn)) ∙ none))
    c.least_twist.ensures.least
