use Rattle.std.proofs.Common.{◌≡◌, take}
use Rattle.plain_lists.specs.Vectors.{lists_of}
use Rattle.sf_defs.specs.slots.Slots.{slotted}
use Rattle.sf_ops.proofs.slots.making.leaves_on_slots.Given as goal

abbrev pub invariant-loop-rank : goal.invariant-loop-rank
invariant-loop-rank l = lists_of l.leaves.items ≡ take l.rank (slotted l.a l.round.got).leaves
