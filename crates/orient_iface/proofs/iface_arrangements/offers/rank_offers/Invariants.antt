use Rattle.std.proofs.Common.{◌≡◌, map, get_or}
use Rattle.plain_lists.specs.Lists.{below}
use Rattle.rank_chart_laws.specs.key_laws.Words.{part}
use Rattle.rank_cones.specs.arrangement_laws.Told.{offer}
use Rattle.orient_iface.proofs.iface_arrangements.offers.rank_offers.Given as goal

abbrev pub invariant-loop-place : goal.invariant-loop-place
invariant-loop-place l = l.own.items ≡ map (λ i. offer (part l.shared l.rank) (get_or l.keys i 0) i) (below l.place)
