use Rattle.std.proofs.Common.{◌≡◌, ◌-◌, []}
use Rattle.input_laws.specs.reading_laws.Going.{repeated, Resumes}
use Rattle.msh_data.specs.Pieces.{flat_of, row_onto}
use Rattle.msh_data.proofs.rows.read_rows.Given as goal

abbrev pub invariant-loop : goal.invariant-loop
invariant-loop g l = record {
  end : l.end ≡ l.shape.rows;
  left : Resumes (repeated (row_onto (g.K.Numbers.known l.known) l.shape.comps) (record { numbers = []; values = [] }) l.shape.rows) l.fn.scan (repeated (row_onto (g.K.Numbers.known l.known) l.shape.comps) (flat_of l.rows) (l.shape.rows - l.counter)) l.scan;
}
