-- The points of a rank by what it is given, and their weights and fields.
use Rattle.std.specs.Prelude.{◌≡◌, ℕ, ◌<◌, List, ◌++◌, length, map, get_or}
use Rattle.plain_lists.specs.Lists.{below}
use Rattle.mesh_defs.specs.declared.Place.{Place}
use Rattle.mesh_defs.specs.declared.Place.TheVariants.{Node}
use Rattle.mesh_defs.specs.Tables.{dim_of}
use Rattle.mesh_defs.specs.Mesh.{Mesh}
use Rattle.mesh_defs.specs.Points.{Sight, point_of, vertex_sight}
use Rattle.mesh_defs.specs.RightMesh.{IsRightMesh}
use Rattle.plex_defs.specs.Fields.{weight}
use Rattle.rank_defs.specs.Ranks.{IsRightAssignment, assigned}
use Rattle.rank_defs.specs.Spread.{ScatterPart, scatter_part, own_chart}
use Rattle.rank_laws.specs.diagram_laws.Strata.{whole_sights}
use Rattle.local_points.specs.Points.{faces_among, edges_among}
use Rattle.rank_chart_laws.specs.meeting_laws.Sets.{RankChart}
use Rattle.rank_chart_laws.specs.OwnRanks.{set_of}
use Rattle.rank_chart_laws.specs.field_laws.Weights.{weight_in}
use Rattle.dist_state.specs.scatter_state.Parts.{cell_at, rows_at}
use Rattle.interp_share.specs.declared.rank_fields.sizes.ChartSizes.{ChartSizes}
use Rattle.interp_share.specs.rank_fields.Words.{section_words, weighted_words}

-- ---- parts

-- what rank r of n is given of a right mesh by a right assignment
pub record IsPartOf (part : ScatterPart) (m : Mesh) (a : List ℕ) (n r : ℕ) : Type 0 where
  pub mesh : IsRightMesh m
  pub assignment : IsRightAssignment m n a
  pub rank : r < n
  pub value : part ≡ scatter_part m a (assigned m a r)

-- what some rank is given of some right mesh
pub record IsSomePart (part : ScatterPart) : Type 0 where
  pub m : Mesh
  pub a : List ℕ
  pub n : ℕ
  pub r : ℕ
  pub is : IsPartOf part m a n r

-- ---- points

-- the points of a part as its cells alone see them: the cells, the vertices, the faces of solids, the edges
abbrev pub part_points : ScatterPart → List Sight
part_points part = whole_sights part.cells ++ map vertex_sight part.vertices ++ faces_among part.cells ++ edges_among part.cells

-- how many there are
abbrev pub part_sizes : ScatterPart → ChartSizes
part_sizes part = record { cells = length part.cells; vertices = length part.vertices; faces = length (faces_among part.cells); edges = length (edges_among part.cells) }

-- the dimension of the first cell; a part without cells has no points, and 0 here
abbrev pub part_dim : ScatterPart → ℕ
part_dim part = dim_of (cell_at part.cells 0).1.poly

-- cells, vertices with owners, and points below the cells as sets of vertices
abbrev pub part_chart : ScatterPart → RankChart
part_chart part = record { cells = length part.cells; vertices = part.vertices; owners = part.owners; sets = map set_of (faces_among part.cells ++ edges_among part.cells) }

-- ---- weights

-- for each point the sum of c + 1 over the cells c of the part that contain it
unfoldable pub part_weights : ScatterPart → List ℕ
part_weights part = map (λ (s : Sight). weight_in part.cells (point_of s)) (part_points part)

-- for each of these points the sum over all cells of the mesh
abbrev pub whole_weights : Mesh → List Sight → List ℕ
whole_weights m points = map (λ (s : Sight). weight m (point_of s)) points

-- for each point of the own charts of n ranks
unfoldable pub total_weights : Mesh → List ℕ → ℕ → List (List ℕ)
total_weights m a n = map (λ r. whole_weights m (own_chart m (assigned m a r))) (below n)

-- ---- fields

-- what data section f is on
abbrev pub place_at : List (Place × ℕ) → ℕ → Place
place_at sections f = (get_or sections f (Node, 0)).0

-- the words of a part's points in each data section
abbrev pub part_data : List (Place × ℕ) → ScatterPart → List (List (List ℕ))
part_data sections part = map (λ f. section_words (part_sizes part) (place_at sections f) (rows_at part.rows f)) (below (length sections))

-- their words by the counts of each `dofs` line, where the points have these weights
abbrev pub part_dofs : List (List ℕ) → ScatterPart → List ℕ → List (List (List ℕ))
part_dofs dofs part weights = map (λ counts. weighted_words (part_sizes part) (part_dim part) counts weights) dofs
