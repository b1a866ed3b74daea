-- Which cells of a rank have the faces that the rank holds, and the sides of these.
use Rattle.std.specs.Prelude.{◌≡◌, ℕ, true, ◌<◌, List, length, slice_index}
use Rattle.std.specs.List.{list_any, AllByRecursion}
use Rattle.plain_lists.specs.Lists.{picked}
use Rattle.mesh_defs.specs.declared.Poly.TheVariants.{Segment}
use Rattle.mesh_defs.specs.Tables.{dim_of, facets_of, edges_of, facet_at}
use Rattle.mesh_defs.specs.Mesh.{Cell}
use Rattle.mesh_defs.specs.Points.{Sight, point_on, shows, cell_edges}
use Rattle.mesh_defs.specs.Diagram.{place_in}
use Rattle.local_points.specs.Cells.{cell_at}
use Rattle.rank_cones.specs.Placed.{IsOn}

-- cell i, a solid, has face k of these by its table
pub record HasFace (cells : List (ℕ × Cell)) (faces : List Sight) (k i : ℕ) : Type 0 where
  pub cell : i < length cells
  pub solid : dim_of (cell_at cells i).1.poly ≡ 3
  pub facet : ℕ
  pub among : facet < length (facets_of (cell_at cells i).1.poly)
  pub place : k ≡ place_in faces (point_on (facet_at (cell_at cells i).1.poly facet).poly (picked (cell_at cells i).1.vertices (facet_at (cell_at cells i).1.poly facet).corners))

-- some cell has each of these faces
abbrev pub AreSeen : List (ℕ × Cell) → List Sight → Type 0
AreSeen cells faces = (k : ℕ) → k < length faces → (i : ℕ) × HasFace cells faces k i

-- for each of these faces a cell that has it, where some cell has it
pub record AreSeeing (cells : List (ℕ × Cell)) (faces : List Sight) (seeing : List ℕ) : Type 0 where
  pub count : length seeing ≡ length faces
  pub each : (k i : ℕ) → HasFace cells faces k i → HasFace cells faces k (slice_index seeing k)

-- each solid among the cells is on these faces
abbrev pub AreSolidsOn : List Sight → List (ℕ × Cell) → Type 0
AreSolidsOn faces cells = AllByRecursion (λ (c : ℕ × Cell). dim_of c.1.poly ≡ 3 → IsOn 3 faces c.1) cells

-- the sides of a polygon are edges of the cell
abbrev pub HasSides : ℕ × Cell → Sight → Type 0
HasSides c s = AllByRecursion (λ e. list_any (shows (point_on Segment (picked s.arrangement e))) (cell_edges c.0 c.1) ≡ true) (edges_of s.poly)
