-- The two halves of the line of sums.
use Rattle.std.specs.Prelude.{ℕ, ℤ, List, ◌++◌, codes}
use Rattle.input_defs.specs.line_defs.Numbers.{fixed_text}
use Rattle.headline_defs.specs.Lines.{also}

abbrev pub sum_counts : ℕ → ℕ → ℕ → ℕ → List ℕ
sum_counts held owned entries back = codes "sum held" ++ also held ++ codes " owned" ++ also owned ++ codes " entries" ++ also entries ++ codes " back" ++ also back

abbrev pub sum_values : ℤ → ℤ → ℕ → List ℕ
sum_values at values dofs = codes " at " ++ fixed_text at ++ codes " data " ++ fixed_text values ++ codes " dofs" ++ also dofs
