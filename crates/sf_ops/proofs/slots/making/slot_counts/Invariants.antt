use Rattle.std.proofs.Common.{◌≡◌, take}
use Rattle.sf_defs.specs.slots.Slots.{slot_counts}
use Rattle.sf_ops.proofs.slots.making.slot_counts.Given as goal

abbrev pub invariant-loop-rank : goal.invariant-loop-rank
invariant-loop-rank l = l.counts.items ≡ take l.rank (slot_counts l.a)
