use Rattle.std.proofs.Common.{◌≡◌, not, sym, ap, subst, ◌∙◌, to_z, of_z, w32}
use Rattle.std.proofs.lemmas.Int.{to_z-of_z}
use Rattle.std.specs.List.{AllByRecursion}
use Rattle.plex_defs.specs.Labels.{has_pair, with_pair}
use Rattle.plex_label.specs.Pairs.{IsPair}
use Rattle.plex_label.proofs.Pairs.{inserted-pair, found-pair, pairs-inserted}
use Rattle.plex_label.proofs.Label.add.Goals as goal

-- the keys of the set are the label with the pair
keys : (c : goal.In_ok-added) → c.insert.new.self.keys ≡ with_pair c.self.inside.pairs.keys (c.args.p, c.args.value)
keys c =
    c.in_ok-added.ensures.keys ∙ inserted-pair c.self.inside.pairs.keys (c.args.p, to_z w32 (of_z w32 c.args.value))
    ∙ ap (λ v. with_pair c.self.inside.pairs.keys (c.args.p, v)) (to_z-of_z w32 c.args.value c.ranges.value)

pub invariant_of-self-2 : goal.invariant_of-self-2
invariant_of-self-2 c = subst (AllByRecursion IsPair) (sym (keys c)) (pairs-inserted c.self.inside.pairs.keys (c.args.p, c.args.value) c.ranges.value c.self.invariant)

pub returns-clause-new : goal.returns-clause-new
returns-clause-new c =
    rw (← c.self.view_is)
    (c.in_ok-added.ensures.added ∙ ap not (found-pair c.self.inside.pairs.keys (c.args.p, to_z w32 (of_z w32 c.args.value)))
    ∙ ap (λ v. not (has_pair c.self.inside.pairs.keys (c.args.p, v))) (to_z-of_z w32 c.args.value c.ranges.value))

pub returns-clause-ok : goal.returns-clause-ok
returns-clause-ok c = rw (← c.self.view_is) (keys c)
