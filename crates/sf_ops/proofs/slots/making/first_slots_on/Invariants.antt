use Rattle.std.proofs.Common.{◌≡◌, map}
use Rattle.plain_lists.specs.Lists.{below}
use Rattle.sf_defs.specs.slots.Slots.{first_slot}
use Rattle.sf_ops.proofs.slots.making.first_slots_on.Given as goal

abbrev pub invariant-loop-index : goal.invariant-loop-index
invariant-loop-index l = record {
  firsts : l.firsts.items ≡ map (first_slot l.a l.rank) (below l.index);
  first : l.first ≡ first_slot l.a l.rank l.index;
}
