use Rattle.std.proofs.Common.{◌≡◌, ◌++◌, ◌+◌, ◌≤◌, length}
use Rattle.std.specs.Prelude.{option_map}
use Rattle.input_defs.specs.line_defs.Rows.{tokens_of}
use Rattle.input_defs.specs.Plans.{plan_numbers}
use Rattle.plan_reader.proofs.numbers.numbers.Given as goal

abbrev pub invariant-loop-first : goal.invariant-loop-first
invariant-loop-first l = record {
  read : plan_numbers (tokens_of l.line) ≡ option_map (λ ns. l.numbers.items ++ ns) (plan_numbers (tokens_of l.rest));
  bound : length l.numbers.items + length l.rest ≤ length l.line;
}

abbrev pub decreases-loop-first : goal.decreases-loop-first
decreases-loop-first l = length l.rest
