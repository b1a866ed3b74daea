use Rattle.std.proofs.Common.{◌≡◌, ◌≤◌, ◌-◌, [], drop, take, length}
use Rattle.input_defs.specs.Sections.{corner}
use Rattle.input_laws.specs.reading_laws.Going.{onto}
use Rattle.msh_reader.specs.Going.{Resumes}
use Rattle.msh_reader.specs.NumberSets.{numbers_of}
use Rattle.msh_reader.proofs.elements.append_corners.Given as goal

abbrev pub invariant-loop : goal.invariant-loop
invariant-loop l = record {
  left : Resumes (onto (corner (numbers_of l.known)) [] l.count) l.fn.scan (onto (corner (numbers_of l.known)) (drop l.start l.corners.items) (l.count - l.counter)) l.scan;
  start : l.start ≡ length l.fn.corners.items;
  long : l.start ≤ length l.corners.items;
  front : take l.start l.corners.items ≡ l.fn.corners.items;
}
