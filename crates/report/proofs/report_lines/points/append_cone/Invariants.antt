use Rattle.std.proofs.Common.{◌≡◌, ◌++◌, take}
use Rattle.std.specs.Prelude.{flat_map}
use Rattle.input_defs.specs.text_defs.Text.{entry_text}
use Rattle.report.proofs.report_lines.points.append_cone.Given as goal

-- the entries up to here are appended
abbrev pub invariant-loop-entry : goal.invariant-loop-entry
invariant-loop-entry l = l.line.items ≡ l.fn.line.items ++ flat_map entry_text (take l.entry-index l.cone)
