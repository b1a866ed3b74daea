use Rattle.std.proofs.Common.{◌≡◌, length}
use Rattle.std.specs.List.{AllByRecursion}
use Rattle.plain_lists.specs.Vectors.{lists_of}
use Rattle.sf_count.specs.Asks.{AreMins}
use Rattle.sf_count.proofs.round.all_asks.Given as goal

abbrev pub invariant-loop-rank : goal.invariant-loop-rank
invariant-loop-rank l = (length l.all.items ≡ l.rank) × AllByRecursion (AreMins l.words) (lists_of l.all.items)
