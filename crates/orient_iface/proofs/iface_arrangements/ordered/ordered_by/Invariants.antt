use Rattle.std.proofs.Common.{◌≡◌, ◌+◌, [], map, get_or}
use Rattle.plain_lists.specs.Lists.{below}
use Rattle.rank_chart_laws.specs.meeting_laws.Sets.{filled}
use Rattle.rank_chart_laws.specs.key_laws.Places.{first_face}
use Rattle.rank_chart_laws.specs.key_laws.Words.{part}
use Rattle.rank_cones.specs.arrangement_laws.Orders.{in_order}
use Rattle.orient_iface.proofs.iface_arrangements.ordered.ordered_by.Given as goal

abbrev pub invariant-loop-k : goal.invariant-loop-k
invariant-loop-k l = l.own.items ≡ map (λ k. in_order (filled (get_or (part l.shared l.rank).sets (first_face (part l.shared l.rank) + k) [])) (get_or l.orders (first_face (part l.shared l.rank) + k) 0)) (below l.k)
