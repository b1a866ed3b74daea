use Rattle.std.proofs.Common.{◌≡◌, map, take}
use Rattle.std.specs.List.{enumerate_from}
use Rattle.plain_lists.specs.Vectors.{lists_of}
use Rattle.dist_seed.specs.vertex_owners.Asked.{own_asks}
use Rattle.dist_seed.proofs.vertex_owners.asks.asks_of.Given as goal

abbrev pub invariant-loop-rank : goal.invariant-loop-rank
invariant-loop-rank l = lists_of l.asks.items ≡ map own_asks (take l.rank (enumerate_from 0 l.held))
