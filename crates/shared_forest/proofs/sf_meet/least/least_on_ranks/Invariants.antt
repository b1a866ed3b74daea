use Rattle.std.proofs.Common.{◌≡◌, ℕ, ◌<◌, [], length, get_or}
use Rattle.plain_lists.specs.Vectors.{lists_of}
use Rattle.shared_forest.specs.sf_meet.SlotRoots.{AreLeast}
use Rattle.shared_forest.proofs.sf_meet.least.least_on_ranks.Given as goal

abbrev pub invariant-loop-rank : goal.invariant-loop-rank
invariant-loop-rank l = record {
  count : length l.least.items ≡ l.rank;
  each : (rank : ℕ) → rank < l.rank → AreLeast l.f rank (get_or (lists_of l.firsts) rank []) (get_or (lists_of l.seconds) rank []) (get_or (lists_of l.ids) rank []) (get_or (lists_of l.least.items) rank []);
}
