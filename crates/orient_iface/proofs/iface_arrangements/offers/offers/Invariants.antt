use Rattle.std.proofs.Common.{◌≡◌, [], map, get_or}
use Rattle.plain_lists.specs.Lists.{below}
use Rattle.plain_lists.specs.Vectors.{lists_of}
use Rattle.rank_chart_laws.specs.key_laws.Words.{part}
use Rattle.rank_cones.specs.arrangement_laws.Told.{rank_offers}
use Rattle.orient_iface.proofs.iface_arrangements.offers.offers.Given as goal

abbrev pub invariant-loop-rank : goal.invariant-loop-rank
invariant-loop-rank l = lists_of l.all.items ≡ map (λ r. rank_offers (part l.shared r) (get_or (lists_of l.keys) r [])) (below l.rank)
