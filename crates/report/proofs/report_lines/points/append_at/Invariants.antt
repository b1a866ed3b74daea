use Rattle.std.proofs.Common.{◌≡◌, ◌++◌, take}
use Rattle.std.specs.Prelude.{codes, flat_map}
use Rattle.input_defs.specs.line_defs.Numbers.{fixed_text}
use Rattle.report.proofs.report_lines.points.append_at.Given as goal

-- the coordinates up to here are appended
abbrev pub invariant-loop-x : goal.invariant-loop-x
invariant-loop-x l = l.line.items ≡ l.fn.line.items ++ (codes " @" ++ flat_map (λ x. codes " " ++ fixed_text x) (take l.x-index l.at))
