use Rattle.std.proofs.Common.{◌≡◌, ℕ, ◌<◌, true, length, get_or, []}
use Rattle.sf_fabric.specs.replays.Right.{are_right}
use Rattle.sf_fabric.proofs.replays.conditions.has_right_asks.Given as goal

abbrev pub invariant-loop-rank : goal.invariant-loop-rank
invariant-loop-rank l = (rank : ℕ) → rank < l.rank → are_right (get_or l.round.asks rank []) (length l.round.before) ≡ true
