use Rattle.std.proofs.Common.{◌-◌}
use Rattle.input_defs.specs.Bodies.{many, quoted}
use Rattle.input_laws.specs.reading_laws.Going.{passed, Resumes}
use Rattle.msh_data.proofs.passing.pass_texts.Given as goal

abbrev pub invariant-loop : goal.invariant-loop
invariant-loop l = Resumes (passed (many l.count quoted)) l.fn.scan (passed (many (l.count - l.counter) quoted)) l.scan
