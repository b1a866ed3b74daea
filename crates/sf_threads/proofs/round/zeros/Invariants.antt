use Rattle.std.proofs.Common.{◌≡◌, length, take}
use Rattle.std.specs.List.{sum_by}
use Rattle.plain_lists.specs.Vectors.{lists_of}
use Rattle.sf_threads.proofs.round.zeros.Given as goal

abbrev pub invariant-loop-own : goal.invariant-loop-own
invariant-loop-own l = length l.got.items ≡ sum_by length (lists_of (take l.own-index l.asks))
