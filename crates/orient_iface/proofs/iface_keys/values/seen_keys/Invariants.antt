use Rattle.std.proofs.Common.{◌≡◌, map}
use Rattle.plain_lists.specs.Lists.{below}
use Rattle.plain_lists.specs.Vectors.{lists_of}
use Rattle.rank_chart_laws.specs.key_laws.Places.{part_keys}
use Rattle.rank_chart_laws.specs.key_laws.Words.{part}
use Rattle.orient_iface.proofs.iface_keys.values.seen_keys.Given as goal

abbrev pub invariant-loop-rank : goal.invariant-loop-rank
invariant-loop-rank l = lists_of l.keys.items ≡ map (λ r. part_keys (part l.shared r)) (below l.rank)
