use Rattle.std.proofs.Common.{take}
use Rattle.dist_seed.specs.rank_marks.Own.{HasSets}
use Rattle.dist_seed.proofs.rank_marks.cell_sets.CellSets.of.Given as goal

abbrev pub invariant-loop-i : goal.invariant-loop-i
invariant-loop-i l = HasSets (take l.i l.own.cells) l.sets.keys
