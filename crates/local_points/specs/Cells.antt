-- Lists of cells with their numbers in the whole mesh, and what they have.
use Rattle.std.specs.Prelude.{◌≡◌, ℕ, ◌+◌, ◌<◌, ◌≤◌, ◌^◌, List, [], length, get_or, flat_map}
use Rattle.std.specs.List.{AllByRecursion}
use Rattle.mesh_defs.specs.declared.Poly.TheVariants.{Vertex}
use Rattle.mesh_defs.specs.Tables.{dim_of, corner_count}
use Rattle.mesh_defs.specs.Mesh.{Cell}
use Rattle.mesh_defs.specs.Points.{Sight, cell_faces, cell_edges}

-- cell i; past the last one there is no cell, and this is one without vertices
abbrev pub cell_at : List (ℕ × Cell) → ℕ → ℕ × Cell
cell_at cells i = get_or cells i (0, record { poly = Vertex; vertices = [] })

-- what is seen at place k; past the last one nothing is, and this is a sight of no vertices
abbrev pub sight_at : List Sight → ℕ → Sight
sight_at seen k = get_or seen k (record { key = 0; poly = Vertex; arrangement = [] })

-- A cell that keys and corners of 32 bits can tell: a polygon or a solid with a vertex at each corner. The greatest
-- number of 32 bits is no vertex.
pub record IsFit (c : ℕ × Cell) : Type 0 where
  pub number : c.0 < 250000
  pub dim : 2 ≤ dim_of c.1.poly
  pub corners : length c.1.vertices ≡ corner_count c.1.poly
  pub vertices : AllByRecursion (λ v. v + 1 < 2 ^ 32) c.1.vertices

-- at most 250,000 such cells
pub record AreFit (cells : List (ℕ × Cell)) : Type 0 where
  pub few : length cells ≤ 250000
  pub each : AllByRecursion IsFit cells

-- the faces of solids and the edges that cells see, cell by cell
abbrev pub faces_seen : List (ℕ × Cell) → List Sight
faces_seen cells = flat_map (λ (c : ℕ × Cell). cell_faces c.0 c.1) cells

abbrev pub edges_seen : List (ℕ × Cell) → List Sight
edges_seen cells = flat_map (λ (c : ℕ × Cell). cell_edges c.0 c.1) cells
