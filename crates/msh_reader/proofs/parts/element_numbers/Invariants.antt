use Rattle.std.proofs.Common.{◌≡◌, ℕ, take}
use Rattle.input_defs.specs.Sections.{has_number}
use Rattle.msh_reader.specs.NumberSets.{numbers_of}
use Rattle.msh_reader.specs.Views.{element_numbers}
use Rattle.msh_reader.proofs.parts.element_numbers.Given as goal

abbrev pub invariant-loop-i : goal.invariant-loop-i
invariant-loop-i l = (n : ℕ) → has_number (numbers_of l.numbers) n ≡ has_number (element_numbers (take l.i l.elements)) n
