use Rattle.std.proofs.Common.{◌≡◌, ◌+◌, ◌≤◌, length}
use Rattle.std.specs.Prelude.{option_map}
use Rattle.input_defs.specs.line_defs.Rows.{lines_of}
use Rattle.input_defs.specs.Plans.{plan_of, plan_from}
use Rattle.plan_reader.specs.Reading.{lines_left, bytes_left}
use Rattle.plan_reader.proofs.reading.read_plan.Given as goal

abbrev pub invariant-loop-left : goal.invariant-loop-left
invariant-loop-left l = record {
  plan : plan_of l.bytes ≡ plan_from l.draft (length (lines_of l.bytes)) (l.line + 1) (lines_left (option_map (λ rest. rest.now) l.left));
  lines : l.line + length (lines_left (option_map (λ rest. rest.now) l.left)) ≡ length (lines_of l.bytes);
  short : bytes_left (option_map (λ rest. rest.now) l.left) ≤ length l.bytes;
}

abbrev pub decreases-loop-left : goal.decreases-loop-left
decreases-loop-left l = length (lines_left (option_map (λ rest. rest.now) l.left))
