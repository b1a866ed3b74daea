use Rattle.std.proofs.Common.{◌-◌, []}
use Rattle.input_defs.specs.Sections.{name}
use Rattle.input_laws.specs.reading_laws.Going.{onto}
use Rattle.msh_reader.specs.Going.{Resumes}
use Rattle.msh_reader.specs.Views.{name_views}
use Rattle.msh_reader.proofs.names.names.Given as goal

abbrev pub invariant-loop : goal.invariant-loop
invariant-loop l = Resumes (onto (λ _. name) [] l.count) l.initial.scan (onto (λ _. name) (name_views l.names.items) (l.count - l.counter)) l.scan
