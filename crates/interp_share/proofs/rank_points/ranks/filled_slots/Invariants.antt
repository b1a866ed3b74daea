use Rattle.std.proofs.Common.{◌≡◌, ◌++◌, map, Some}
use Rattle.interp_share.proofs.rank_points.ranks.filled_slots.Given as goal

abbrev pub invariant-loop-slot : goal.invariant-loop-slot
invariant-loop-slot l = record {
  can_next : (goal.iterator-loop-slot).can_next l.slot-iterator;
  is_finite : (goal.iterator-loop-slot).is_finite l.slot-iterator;
  made : l.fn.slots.items ≡ map Some l.all.items ++ l.slot-iterator.rest.items;
}
