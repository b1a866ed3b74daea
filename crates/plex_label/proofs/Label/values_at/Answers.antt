use Rattle.std.proofs.Common.{◌≡◌, ◌∙◌, sym, subst}
use Rattle.std.specs.List.Sorted.{IsStrictlySortedBy}
use Rattle.std.specs.Ordering.{int_cmp}
use Rattle.plex_defs.specs.Labels.{values_at}
use Rattle.plex_label.proofs.Pairs.{values-within, values-rise}
use Rattle.plex_label.proofs.Label.values_at.Goals as goal

values : (c : goal.In_ok-values) → c.in_ok-values.values.items ≡ values_at c.self.inside.pairs.keys c.args.p
values c = c.in_ok-values.ensures.values ∙ values-within c.self.inside.pairs.keys c.args.p c.self.invariant

pub returns-clause-values : goal.returns-clause-values
returns-clause-values c = rw (← c.self.view_is) (values c)

pub returns-clause-ascending : goal.returns-clause-ascending
returns-clause-ascending c = subst (IsStrictlySortedBy int_cmp) (sym (values c)) (values-rise c.self.inside.pairs.keys c.args.p c.values_among.ensures.ordered)
