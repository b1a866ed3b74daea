use Rattle.std.proofs.Common.{◌≡◌, ℕ, ◌<◌, [], length, get_or}
use Rattle.plain_lists.specs.Vectors.{lists_of}
use Rattle.rank_chart_laws.specs.key_laws.Words.{AreWordPlaces}
use Rattle.orient_iface.proofs.iface_keys.places.all_words.Given as goal

abbrev pub invariant-loop-rank : goal.invariant-loop-rank
invariant-loop-rank l = record {
  ranks : length l.places.items ≡ l.rank;
  each : (r : ℕ) → r < l.rank → AreWordPlaces l.shared r (get_or (lists_of l.places.items) r []);
}
