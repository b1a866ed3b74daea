use Rattle.std.proofs.Common.{sym, subst, to_z, of_z, w32}
use Rattle.std.specs.List.Sorted.{IsStrictlySortedBy}
use Rattle.std.specs.Ordering.{nat_cmp}
use Rattle.plex_label.proofs.Pairs.{points-rise}
use Rattle.plex_label.proofs.Label.points.Goals as goal

pub returns-clause-ascending : goal.returns-clause-ascending
returns-clause-ascending c = subst (IsStrictlySortedBy nat_cmp) (sym c.in_ok-points.ensures.points) (points-rise c.self.inside.pairs.keys (to_z w32 (of_z w32 c.args.value)) c.points_among.ensures.ordered)
