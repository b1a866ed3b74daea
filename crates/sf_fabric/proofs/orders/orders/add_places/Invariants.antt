use Rattle.std.proofs.Common.{◌≡◌, ◌++◌, map, drop}
use Rattle.sf_fabric.specs.orders.Places.{place_in, entries_of}
use Rattle.sf_fabric.proofs.orders.orders.add_places.Given as goal

abbrev pub invariant-loop-index : goal.invariant-loop-index
invariant-loop-index l = l.places.items ++ map (place_in l.kinds l.words) (entries_of l.rank l.index (drop l.index l.asks) (drop l.index l.got)) ≡ l.initial.places.items ++ map (place_in l.kinds l.words) (entries_of l.rank 0 l.asks l.got)
