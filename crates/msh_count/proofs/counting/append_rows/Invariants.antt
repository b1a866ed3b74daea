use Rattle.std.proofs.Common.{◌≡◌, ◌++◌, flat_map}
use Rattle.std.specs.Prelude.{drop}
use Rattle.msh_count.specs.Statuses.{rows_line}
use Rattle.msh_count.proofs.counting.append_rows.Given as goal

abbrev pub invariant-loop-i : goal.invariant-loop-i
invariant-loop-i l = l.lines.items ++ flat_map rows_line (drop l.i l.text.fields) ≡ l.fn.lines.items ++ flat_map rows_line l.text.fields
