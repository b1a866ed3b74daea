use Rattle.std.proofs.Common.{◌≡◌, ℕ, ◌<◌, length, get_or}
use Rattle.rank_cones.proofs.held_points.order.moves_of.Given as goal

abbrev pub invariant-loop-k : goal.invariant-loop-k
invariant-loop-k l = record {
  count : length l.moves.items ≡ length l.order;
  places : (j : ℕ) → j < l.k → get_or l.moves.items (get_or l.order j 0) 0 ≡ j;
}
