use Rattle.std.proofs.Common.{◌≡◌, ◌^◌, ◌<◌, ℕ, get_or, take}
use Rattle.plain_lists.specs.Vectors.{lists_of}
use Rattle.dist_number.specs.Asked.{own_counts, sums_of}
use Rattle.dist_number.proofs.counts.sums_of.Given as goal

abbrev pub invariant-loop-rank : goal.invariant-loop-rank
invariant-loop-rank l = record {
  asks : lists_of l.asks.items ≡ take l.rank (sums_of (own_counts l.d));
  small : (k : ℕ) → k < l.rank → get_or (own_counts l.d) k 0 < 2 ^ 32;
}
