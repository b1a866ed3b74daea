use Rattle.std.proofs.Common.{◌≡◌, ◌-◌, ◌<◌, ◌≤◌, false, length, get_or}
use Rattle.input_defs.specs.scan_defs.Items.{ahead}
use Rattle.input_defs.specs.scan_defs.Steps.{next_header, ahead_after_header}
use Rattle.scan.specs.Cursors.{IsAt, is_gap, spot}
use Rattle.scan.proofs.cursor.past_body.Given as goal

abbrev pub invariant-loop-at : goal.invariant-loop-at
invariant-loop-at l = record {
  at : IsAt l.bytes l.at;
  goes_on : l.fn.from.place ≤ l.at.place;
  ink : l.at.place < length l.bytes → is_gap (get_or l.bytes l.at.place 0) ≡ false;
  header : next_header (ahead (spot l.bytes l.at.place)) ≡ next_header (ahead (spot l.bytes l.fn.from.place));
  ahead : ahead_after_header (ahead (spot l.bytes l.at.place)) ≡ ahead_after_header (ahead (spot l.bytes l.fn.from.place));
}

abbrev pub decreases-loop-at : goal.decreases-loop-at
decreases-loop-at l = length l.bytes - l.at.place
