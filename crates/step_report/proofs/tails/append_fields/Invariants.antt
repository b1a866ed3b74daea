use Rattle.std.proofs.Common.{◌≡◌, ◌++◌, []}
use Rattle.std.specs.Prelude.{flat_map, get_or}
use Rattle.plain_lists.specs.Lists.{below}
use Rattle.walk_defs.specs.step_defs.Points.{words_text}
use Rattle.step_report.proofs.tails.append_fields.Given as goal

-- the fields up to here are appended
abbrev pub invariant-loop-i : goal.invariant-loop-i
invariant-loop-i l = l.line.items ≡ l.fn.line.items ++ flat_map (λ i. words_text l.sections i (get_or (get_or l.local.fields i []) l.p [])) (below l.i)
