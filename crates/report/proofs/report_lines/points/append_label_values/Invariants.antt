use Rattle.std.proofs.Common.{◌≡◌, ◌++◌, take}
use Rattle.std.specs.Prelude.{flat_map}
use Rattle.std.specs.Fmt.{signed_decimal}
use Rattle.report.proofs.report_lines.points.append_label_values.Given as goal

-- the values up to here are appended
abbrev pub invariant-loop-value : goal.invariant-loop-value
invariant-loop-value l = l.line.items ≡ l.fn.line.items ++ flat_map (λ v. l.name ++ signed_decimal v) (take l.value-index l.values)
