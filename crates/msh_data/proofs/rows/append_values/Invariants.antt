use Rattle.std.proofs.Common.{◌-◌}
use Rattle.input_defs.specs.Bodies.{fixed}
use Rattle.input_laws.specs.reading_laws.Going.{onto, Resumes}
use Rattle.msh_data.proofs.rows.append_values.Given as goal

abbrev pub invariant-loop : goal.invariant-loop
invariant-loop l = Resumes (onto (λ _. fixed) l.fn.values.items l.count) l.fn.scan (onto (λ _. fixed) l.values.items (l.count - l.counter)) l.scan
