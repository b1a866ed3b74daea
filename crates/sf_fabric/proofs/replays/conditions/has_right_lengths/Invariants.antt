use Rattle.std.proofs.Common.{◌≡◌, ℕ, ◌<◌, ◌^◌, length, get_or, []}
use Rattle.sf_fabric.proofs.replays.conditions.has_right_lengths.Given as goal

abbrev pub invariant-loop-rank : goal.invariant-loop-rank
invariant-loop-rank l = record {
  few_asks : (rank : ℕ) → rank < l.rank → length (get_or l.round.asks rank []) < 2 ^ 32;
  fetched : (rank : ℕ) → rank < l.rank → length (get_or l.round.got rank []) ≡ length (get_or l.round.asks rank []);
}
