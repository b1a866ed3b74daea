use Rattle.std.proofs.Common.{◌≡◌, length}
use Rattle.interp_share.proofs.rank_points.ranks.empty_slots.Given as goal

abbrev pub invariant-loop : goal.invariant-loop
invariant-loop l = length l.slots.items ≡ l.counter
