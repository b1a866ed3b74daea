use Rattle.std.proofs.Common.{◌≡◌, take}
use Rattle.sf_defs.specs.slots.Slots.{first_slots}
use Rattle.sf_ops.proofs.slots.making.first_slots.Given as goal

abbrev pub invariant-loop-rank : goal.invariant-loop-rank
invariant-loop-rank l = l.firsts.items ≡ take l.rank (first_slots l.a)
