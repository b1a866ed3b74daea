-- What a diagram has while the points of a rank are pushed.
use Rattle.std.specs.Prelude.{◌≡◌, ℕ, List, length}
use Rattle.mesh_defs.specs.Mesh.{Cell}
use Rattle.mesh_defs.specs.Diagram.{Diagram}
use Rattle.local_points.specs.Points.{Local, local_points}
use Rattle.rank_cones.specs.held_points.Held.{Held}
use Rattle.rank_chart_laws.specs.rank_diagram_laws.Parts.{Parts, AreParts}
use Rattle.rank_cones.specs.Placed.{ArePlaced}
use Rattle.rank_cones.specs.Seen.{AreSeen}

-- the parts that these cells, vertices, faces and edges are
abbrev pub rank_parts : ℕ → List (ℕ × Cell) → List ℕ → Held → Parts
rank_parts dim cells vertices held = record { dim = dim; cells = cells; vertices = vertices; faces = held.faces; edges = held.edges }

-- parts that fit together, with the places of the cells' own points; some cell has each of the faces
pub record AreWhole (p : Parts) (local : Local) (held : Held) : Type 0 where
  pub parts : AreParts p
  pub local_is : local ≡ local_points p.cells
  pub placed : ArePlaced local held
  pub seen : AreSeen p.cells held.faces

-- the numbers are those of the parts
pub record IsFor (p : Parts) (g : Diagram) : Type 0 where
  pub cells : g.cells ≡ length p.cells
  pub vertices : g.vertices ≡ length p.vertices
  pub faces : g.faces ≡ length p.faces
  pub edges : g.edges ≡ length p.edges
