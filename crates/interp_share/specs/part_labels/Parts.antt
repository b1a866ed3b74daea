-- Parts that right meshes give to ranks, and the points and labels that a rank can tell from its part alone.
use Rattle.std.specs.Prelude.{◌≡◌, ℕ, ◌<◌, ℤ, List, ◌++◌, map}
use Rattle.plain_lists.specs.Lists.{below}
use Rattle.mesh_defs.specs.Mesh.{Mesh, Cell, Mark}
use Rattle.mesh_defs.specs.Points.{Sight, cell_sight, vertex_sight}
use Rattle.mesh_defs.specs.RightMesh.{IsRightMesh}
use Rattle.plex_defs.specs.Labels.{label_of}
use Rattle.rank_defs.specs.Ranks.{IsRightAssignment, assigned}
use Rattle.rank_defs.specs.Spread.{ScatterPart, scatter_part}
use Rattle.local_points.specs.Points.{faces_among, edges_among}
use Rattle.rank_chart_laws.specs.label_laws.Marks.{marked_pairs}

-- this is what the mesh gives to rank r of n ranks under the assignment a
pub record IsPartOf (part : ScatterPart) (m : Mesh) (a : List ℕ) (n r : ℕ) : Type 0 where
  pub mesh : IsRightMesh m
  pub assignment : IsRightAssignment m n a
  pub rank : r < n
  pub value : part ≡ scatter_part m a (assigned m a r)

-- some mesh gives this to some rank under some assignment
pub record IsSomePart (part : ScatterPart) : Type 0 where
  pub m : Mesh
  pub a : List ℕ
  pub n : ℕ
  pub r : ℕ
  pub is : IsPartOf part m a n r

-- cells as they see themselves
abbrev pub cells_among : List (ℕ × Cell) → List Sight
cells_among cells = map (λ (c : ℕ × Cell). cell_sight c.0 c.1) cells

-- the points of a part: its cells, its vertices, and the faces and edges that the cells see
unfoldable pub points_of_part : ScatterPart → List Sight
points_of_part part = cells_among part.cells ++ map vertex_sight part.vertices ++ faces_among part.cells ++ edges_among part.cells

-- the labels of points of dimension 0 to 3, from some marks
abbrev pub labels_from : List Sight → List Mark → List (List (ℕ × ℤ))
labels_from points marks = map (λ dim. label_of (marked_pairs points dim marks)) (below 4)
