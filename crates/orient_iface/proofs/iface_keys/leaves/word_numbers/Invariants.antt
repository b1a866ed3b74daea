use Rattle.std.proofs.Common.{◌≡◌, map}
use Rattle.plain_lists.specs.Lists.{below}
use Rattle.plain_lists.specs.Vectors.{lists_of}
use Rattle.rank_chart_laws.specs.key_laws.Words.{numbered}
use Rattle.orient_iface.proofs.iface_keys.leaves.word_numbers.Given as goal

abbrev pub invariant-loop-rank : goal.invariant-loop-rank
invariant-loop-rank l = lists_of l.numbers.items ≡ map (numbered l.shared (lists_of l.places)) (below l.rank)
