use Rattle.std.proofs.Common.{◌≡◌, map, take}
use Rattle.interp_share.specs.part_labels.Sets.{set_of}
use Rattle.interp_share.proofs.part_labels.cells.CellTable.fill.Given as goal

abbrev pub invariant-loop-i : goal.invariant-loop-i
invariant-loop-i l = l.self.sets.keys ≡ map set_of (take l.i l.part.cells)
