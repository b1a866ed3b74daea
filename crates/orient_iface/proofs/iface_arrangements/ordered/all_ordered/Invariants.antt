use Rattle.std.proofs.Common.{◌≡◌, [], map, get_or}
use Rattle.plain_lists.specs.Lists.{below}
use Rattle.plain_lists.specs.Vectors.{lists_of}
use Rattle.rank_chart_laws.specs.key_laws.Words.{part}
use Rattle.rank_cones.specs.arrangement_laws.Told.{ordered_by}
use Rattle.orient_iface.proofs.iface_arrangements.ordered.all_ordered.Given as goal

abbrev pub invariant-loop-rank : goal.invariant-loop-rank
invariant-loop-rank l = lists_of l.all.items ≡ map (λ r. ordered_by (part l.shared r) (get_or (lists_of l.orders) r [])) (below l.rank)
