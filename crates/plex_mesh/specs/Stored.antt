-- How cells and marks are stored: their vertices in one flat list.
use Rattle.std.specs.Prelude.{ℕ, List}
use Rattle.mesh_defs.specs.Mesh.{Cell, Mark}
use Rattle.plex_base.specs.Dim.{dim_number}
use Rattle.plex_mesh.specs.declared.span.Span.{Span}
use Rattle.plex_mesh.specs.declared.cells.StoredCell.{StoredCell}
use Rattle.plex_mesh.specs.declared.marks.StoredMark.{StoredMark}
use Rattle.plex_mesh.specs.Spans.{with_parts}

abbrev pub cell_span : StoredCell → Span
cell_span s = s.span

abbrev pub cell_on : StoredCell → List ℕ → Cell
cell_on s vertices = record { poly = s.poly; vertices = vertices }

abbrev pub cells_of : List StoredCell → List ℕ → List Cell
cells_of = with_parts cell_span cell_on

abbrev pub mark_span : StoredMark → Span
mark_span s = s.span

abbrev pub mark_on : StoredMark → List ℕ → Mark
mark_on s vertices = record { dim = dim_number s.dim; vertices = vertices; value = s.value }

abbrev pub marks_of : List StoredMark → List ℕ → List Mark
marks_of = with_parts mark_span mark_on
