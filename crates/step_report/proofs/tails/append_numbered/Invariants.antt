use Rattle.std.proofs.Common.{◌≡◌, ◌++◌, take}
use Rattle.std.specs.Prelude.{flat_map}
use Rattle.input_defs.specs.text_defs.Text.{entry_text}
use Rattle.walk_defs.specs.step_defs.Points.{renamed}
use Rattle.walk_defs.specs.step_defs.Steps.{numbers_on}
use Rattle.step_report.proofs.tails.append_numbered.Given as goal

-- the entries up to here are appended
abbrev pub invariant-loop-entry : goal.invariant-loop-entry
invariant-loop-entry l = l.line.items ≡ l.fn.line.items ++ flat_map entry_text (renamed (numbers_on l.numbers l.rank) (take l.entry-index l.entries))
