use Rattle.std.proofs.Common.{◌≡◌, ℕ, ◌^◌, ◌<◌, ◌++◌, [], map, get_or, drop}
use Rattle.sf_defs.specs.Rounds.{entries}
use Rattle.round_laws.proofs.Entries.{entries_from}
use Rattle.sf_fabric.specs.orders.Places.{place_in}
use Rattle.sf_fabric.proofs.orders.orders.places_of.Given as goal

abbrev pub invariant-loop-rank : goal.invariant-loop-rank
invariant-loop-rank l = record {
  small : (rank k : ℕ) → rank < l.rank → get_or (get_or l.got rank []) k 0 < 2 ^ 64;
  entered : l.places.items ++ map (place_in l.kinds.items l.words) (entries_from l.rank (drop l.rank l.asks) (drop l.rank l.got)) ≡ map (place_in l.kinds.items l.words) (entries l.asks l.got);
}
