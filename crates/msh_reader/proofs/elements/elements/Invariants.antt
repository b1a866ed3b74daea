use Rattle.std.proofs.Common.{◌-◌, []}
use Rattle.input_defs.specs.Sections.{element}
use Rattle.input_laws.specs.reading_laws.Going.{onto}
use Rattle.msh_reader.specs.Going.{Resumes}
use Rattle.msh_reader.specs.NumberSets.{numbers_of}
use Rattle.msh_reader.specs.Views.{element_views, AreLaidOut}
use Rattle.msh_reader.proofs.elements.elements.Given as goal

abbrev pub invariant-loop : goal.invariant-loop
invariant-loop l = record {
  left : Resumes (onto (λ _. element (numbers_of l.known)) [] l.count) l.initial.scan (onto (λ _. element (numbers_of l.known)) (element_views l.elements.items l.corners.items) (l.count - l.counter)) l.scan;
  laid : AreLaidOut l.elements.items l.corners.items;
}
