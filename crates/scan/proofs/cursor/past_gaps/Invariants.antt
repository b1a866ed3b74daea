use Rattle.std.proofs.Common.{◌≡◌, ◌-◌, ◌≤◌, length}
use Rattle.input_defs.specs.scan_defs.Items.{ahead}
use Rattle.input_defs.specs.scan_defs.Quotes.{quoted_from}
use Rattle.scan.specs.Cursors.{IsAt, spot}
use Rattle.scan.proofs.cursor.past_gaps.Given as goal

abbrev pub invariant-loop-at : goal.invariant-loop-at
invariant-loop-at l = record {
  at : IsAt l.bytes l.at;
  goes_on : l.fn.from.place ≤ l.at.place;
  quoted : quoted_from (spot l.bytes l.at.place) ≡ quoted_from (spot l.bytes l.fn.from.place);
  ahead : ahead (spot l.bytes l.at.place) ≡ ahead (spot l.bytes l.fn.from.place);
}

abbrev pub decreases-loop-at : goal.decreases-loop-at
decreases-loop-at l = length l.bytes - l.at.place
