use Rattle.std.proofs.Common.{◌≡◌, length}
use Rattle.std.specs.List.{AllByRecursion}
use Rattle.sf_count.specs.Asks.{IsMin}
use Rattle.sf_count.proofs.round.own_asks.Given as goal

abbrev pub invariant-loop-index : goal.invariant-loop-index
invariant-loop-index l = (length l.own.items ≡ l.index) × AllByRecursion (IsMin l.words) l.own.items
