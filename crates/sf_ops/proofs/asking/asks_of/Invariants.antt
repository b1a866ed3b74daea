use Rattle.std.proofs.Common.{◌≡◌, take}
use Rattle.plain_lists.specs.Vectors.{lists_of}
use Rattle.sf_ops.specs.Asked.{asks_of}
use Rattle.sf_ops.proofs.asking.asks_of.Given as goal

abbrev pub invariant-loop-rank : goal.invariant-loop-rank
invariant-loop-rank l = lists_of l.asks.items ≡ take l.rank (asks_of l.forest l.op (lists_of l.leaves))
