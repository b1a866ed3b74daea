use Rattle.std.proofs.Common.{◌≡◌, ◌<◌, ℕ, [], length, get_or}
use Rattle.dist_number.proofs.bases.Bases.of.Given as goal

abbrev pub invariant-loop-rank : goal.invariant-loop-rank
invariant-loop-rank l = record {
  count : length l.bases.items ≡ length l.round.got;
  drawn : (rank : ℕ) → rank < l.rank → get_or l.bases.items rank 0 ≡ get_or (get_or l.round.got rank []) 0 0;
}
