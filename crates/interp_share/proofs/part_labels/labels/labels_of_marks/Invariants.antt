use Rattle.std.proofs.Common.{◌≡◌, take}
use Rattle.interp_share.specs.part_labels.Parts.{points_of_part, labels_from}
use Rattle.interp_share.specs.part_labels.Sets.{IsTableOrNone}
use Rattle.interp_share.proofs.part_labels.labels.labels_of_marks.Given as goal

abbrev pub invariant-loop-i : goal.invariant-loop-i
invariant-loop-i l = record {
  table : IsTableOrNone l.part.cells l.cells.sets.keys;
  found : l.found.items ≡ labels_from (points_of_part l.part) (take l.i l.part.marks);
}
