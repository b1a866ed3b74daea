use Rattle.std.proofs.Common.{◌-◌}
use Rattle.input_defs.specs.Bodies.{many, int}
use Rattle.input_laws.specs.reading_laws.Going.{passed, Resumes}
use Rattle.msh_data.proofs.passing.pass_ints.Given as goal

abbrev pub invariant-loop : goal.invariant-loop
invariant-loop l = Resumes (passed (many l.count int)) l.fn.scan (passed (many (l.count - l.counter) int)) l.scan
