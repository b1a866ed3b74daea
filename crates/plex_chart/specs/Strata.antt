-- A diagram from its parts.
use Rattle.std.specs.Prelude.{ℕ, ◌+◌, ◌*◌, List, length}
use Rattle.mesh_defs.specs.declared.Poly.{Poly}
use Rattle.mesh_defs.specs.declared.Poly.TheVariants.{Segment}
use Rattle.mesh_defs.specs.Tables.{facets_of, facet_at}
use Rattle.mesh_defs.specs.Diagram.{Covering, Diagram}
use Rattle.plex_base.specs.Dim.{dim_number}
use Rattle.plex_chart.specs.declared.strata.Strata.{Strata}

abbrev pub diagram_of : Strata → List Covering → Diagram
diagram_of s points = record { dim = dim_number s.dim; cells = s.cells; vertices = s.vertices; faces = s.faces; edges = s.edges; points = points }

-- how many entries all cones have together, if every cell is of this polytope
abbrev pub entries_if_alike : Strata → Poly → ℕ
entries_if_alike s cell =
    length (facets_of cell) * s.cells + length (facets_of (facet_at cell 0).poly) * s.faces + length (facets_of Segment) * s.edges
