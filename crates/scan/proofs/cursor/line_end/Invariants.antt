use Rattle.std.proofs.Common.{◌≡◌, ◌+◌, ◌-◌, ◌≤◌, length, drop}
use Rattle.std.specs.List.{position_or_len}
use Rattle.input_defs.specs.line_defs.Rows.{is_newline}
use Rattle.scan.proofs.cursor.line_end.Given as goal

abbrev pub invariant-loop-end : goal.invariant-loop-end
invariant-loop-end l = record {
  inside : l.end ≤ length l.bytes;
  low : l.place ≤ l.end;
  run : l.end + position_or_len is_newline (drop l.end l.bytes) ≡ l.place + position_or_len is_newline (drop l.place l.bytes);
}

abbrev pub decreases-loop-end : goal.decreases-loop-end
decreases-loop-end l = length l.bytes - l.end
