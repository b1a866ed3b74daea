use Rattle.std.proofs.Common.{◌≡◌, [], map, get_or}
use Rattle.plain_lists.specs.Lists.{below}
use Rattle.plain_lists.specs.Vectors.{lists_of}
use Rattle.rank_chart_laws.specs.key_laws.Places.{part_keys, put}
use Rattle.rank_chart_laws.specs.key_laws.Words.{part}
use Rattle.orient_iface.proofs.iface_keys.home.told_keys.Given as goal

abbrev pub invariant-loop-rank : goal.invariant-loop-rank
invariant-loop-rank l = lists_of l.keys.items ≡ map (λ r. put (part_keys (part l.shared r)) (get_or (lists_of l.places) r []) (get_or (lists_of l.least) r [])) (below l.rank)
