-- Where a cell has its points among those of a part, and how the weights of all points are added up.
use Rattle.std.specs.Prelude.{◌≡◌, ℕ, ◌+◌, ◌<◌, ◌==◌, List, ◌∷◌, ◌++◌, length, map, take, slice_index}
use Rattle.std.specs.List.{position_or_len}
use Rattle.mesh_defs.specs.Mesh.{Cell}
use Rattle.mesh_defs.specs.Points.{cell_faces, cell_edges}
use Rattle.rank_defs.specs.Spread.{ScatterPart}
use Rattle.local_points.specs.Points.{Local, places_in, faces_among, edges_among, local_points}
use Rattle.rank_chart_laws.specs.field_laws.Weights.{weight_in, point_at}
use Rattle.rank_laws.specs.cell_laws.Cells.{places_from}
use Rattle.interp_share.specs.own_field_laws.Own.{IsSomePart, part_points}

-- these are the faces and edges of what some rank is given
pub record AreOfPart (part : ScatterPart) (local : Local) : Type 0 where
  pub some : IsSomePart part
  pub all : local ≡ local_points part.cells

-- the place of a vertex among these
abbrev pub vertex_place : List ℕ → ℕ → ℕ
vertex_place vertices v = position_or_len (λ w. w == v) vertices

-- what stands before the faces and before the edges
abbrev pub before_faces : ScatterPart → ℕ
before_faces part = length part.cells + length part.vertices

abbrev pub before_edges : ScatterPart → ℕ
before_edges part = before_faces part + length (faces_among part.cells)

-- the places of all points that cell i contains: itself, its vertices, its faces, its edges
unfoldable pub cell_places : ScatterPart → ℕ → ℕ × Cell → List ℕ
cell_places part i c =
    (i ∷ places_from (length part.cells) (map (vertex_place part.vertices) c.1.vertices)) ++ places_from (before_faces part) (places_in (faces_among part.cells) (cell_faces c.0 c.1))
    ++ places_from (before_edges part) (places_in (edges_among part.cells) (cell_edges c.0 c.1))

-- the weights of all points by the first n cells
pub record AreWeights (part : ScatterPart) (n : ℕ) (weights : List ℕ) : Type 0 where
  pub many : length weights ≡ length (part_points part)
  pub each : (p : ℕ) → p < length (part_points part) → slice_index weights p ≡ weight_in (take n part.cells) (point_at (part_points part) p)
