use Rattle.shared_forest.specs.sf_meet.SlotRoots.{AreSlotRoots}
use Rattle.shared_forest.proofs.sf_meet.slot_roots.slot_roots.Given as goal

abbrev pub invariant-loop-index : goal.invariant-loop-index
invariant-loop-index l = AreSlotRoots l.f l.rank l.index l.roots.items
