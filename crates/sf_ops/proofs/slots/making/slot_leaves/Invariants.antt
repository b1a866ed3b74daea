use Rattle.std.proofs.Common.{◌≡◌, take}
use Rattle.sf_defs.specs.Forest.{leaves_on}
use Rattle.sf_defs.specs.slots.Slots.{slot_leaves}
use Rattle.sf_ops.proofs.slots.making.slot_leaves.Given as goal

abbrev pub invariant-loop-i : goal.invariant-loop-i
invariant-loop-i l = l.own.items ≡ take l.i (slot_leaves l.a (leaves_on l.a l.rank) l.drawn)
