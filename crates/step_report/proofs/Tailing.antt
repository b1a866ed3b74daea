-- Parts of the line of a point.
use Rattle.std.proofs.Common.{◌≡◌, ℕ, ◌+◌, ◌<◌, ◌≤◌, List, ◌++◌, append_assoc, arith}
use Rattle.std.specs.Prelude.{flat_map}
use Rattle.std.proofs.lemmas.Bool.Decides.{nat_tests}
use Rattle.mesh_defs.specs.declared.ConeEntry.{ConeEntry}
use Rattle.mesh_defs.specs.Diagram.{Diagram}
use Rattle.input_defs.specs.text_defs.Text.{entry_text, tail_text}
use Rattle.rank_defs.specs.Spread.{LocalMesh}
use Rattle.walk_defs.specs.step_defs.Points.{tail_of}
use Rattle.plex_chart.specs.Chart.{FitsChart, IsInStratum}
use Rattle.step_report.specs.Tails.{rest_of}

-- the cone, and what follows
pub tail-parts : (sections : ℕ) (l : LocalMesh) (cone : List ConeEntry) (p : ℕ) → tail_of sections l cone p ≡ flat_map entry_text cone ++ rest_of sections l p
unfolding tail_of tail_text rest_of
tail-parts sections l cone p = simp append_assoc

-- a vertex stands after the cells, and among the vertices
pub vertex-from : (g : Diagram) → FitsChart g → (p : ℕ) → IsInStratum g 0 p → g.cells ≤ p
vertex-from g fits p h = grind (arith, nat_tests, h.from, h.to, fits.strata.polygons, fits.strata.solids)

pub vertex-to : (g : Diagram) → FitsChart g → (p : ℕ) → IsInStratum g 0 p → p < g.cells + g.vertices
vertex-to g fits p h = grind (arith, nat_tests, h.from, h.to, fits.strata.polygons, fits.strata.solids)
