-- What one rank is given, from its lists.
use Rattle.std.specs.Prelude.{◌≡◌, ℕ, ◌^◌, ◌<◌, ℤ, pos, List, [], ◌∷◌, length, map, get_or, Option, Some, None}
use Rattle.std.specs.List.{AllByRecursion}
use Rattle.mesh_defs.specs.declared.Poly.{Poly}
use Rattle.mesh_defs.specs.declared.Poly.TheVariants.{Vertex}
use Rattle.mesh_defs.specs.Mesh.{Cell, Mark}
use Rattle.plex_base.specs.Dim.{dim_number}
use Rattle.rank_defs.specs.Spread.{ScatterPart}
use Rattle.dist_state.specs.declared.scatter_state.rank_part.MarkHead.{MarkHead}
use Rattle.dist_state.specs.declared.scatter_state.rank_part.PartLists.{PartLists}

-- cells from their places, polytopes and corners
abbrev pub cells_of : List ℕ → List Poly → List (List ℕ) → List (ℕ × Cell)
cells_of [] polys lists = []
cells_of (n ∷ ns) [] lists = []
cells_of (n ∷ ns) (poly ∷ polys) [] = []
cells_of (n ∷ ns) (poly ∷ polys) (vertices ∷ lists) = (n, record { poly = poly; vertices = vertices }) ∷ cells_of ns polys lists

-- marks from their heads and vertices
abbrev pub marks_of : List MarkHead → List (List ℕ) → List Mark
marks_of [] lists = []
marks_of (head ∷ heads) [] = []
marks_of (head ∷ heads) (vertices ∷ lists) = record { dim = dim_number head.dim; vertices = vertices; value = head.value } ∷ marks_of heads lists

-- the values of a row; without values there is no row
abbrev pub given_row : List ℤ → Option (List ℤ)
given_row [] = None
given_row (value ∷ values) = Some (value ∷ values)

abbrev pub given_rows : List (List ℤ) → List (Option (List ℤ))
given_rows rows = map given_row rows

-- a rank's part from its lists
abbrev pub part_of : PartLists → ScatterPart
part_of lists = record {
  cells = cells_of lists.cells.items lists.polys.items lists.corners;
  vertices = lists.vertices.items;
  owners = lists.owners.items;
  at = lists.at.items;
  marks = marks_of lists.marks.items lists.mark_vertices;
  rows = map given_rows lists.rows.items;
}

-- a polytope and corners for each cell, an owner and coordinates for each vertex, vertices for each mark
pub record AreRightLists (lists : PartLists) : Type 0 where
  pub polys : length lists.polys.items ≡ length lists.cells.items
  pub corners : length lists.corners ≡ length lists.cells.items
  pub owners : length lists.owners.items ≡ length lists.vertices.items
  pub at : length lists.at.items ≡ length lists.vertices.items
  pub mark_vertices : length lists.mark_vertices ≡ length lists.marks.items
  pub few_marks : length lists.marks.items < 2 ^ 32

-- the same of a part: an owner and coordinates for each vertex, and marks that 32 bits can count
pub record IsRightPart (part : ScatterPart) : Type 0 where
  pub owners : length part.owners ≡ length part.vertices
  pub at : length part.at ≡ length part.vertices
  pub few_marks : length part.marks < 2 ^ 32

-- the place of a cell in the whole mesh
abbrev pub number_of : ℕ × Cell → ℕ
number_of c = c.0

-- cell i; past the last one there is no cell, and this is one without vertices
abbrev pub cell_at : List (ℕ × Cell) → ℕ → ℕ × Cell
cell_at cells i = get_or cells i (0, record { poly = Vertex; vertices = [] })

-- mark i; past the last one there is no mark, and this is one without vertices
abbrev pub mark_at : List Mark → ℕ → Mark
mark_at marks i = get_or marks i (record { dim = 0; vertices = []; value = pos 0 })

-- the rows of data section f
abbrev pub rows_at : List (List (Option (List ℤ))) → ℕ → List (Option (List ℤ))
rows_at rows f = get_or rows f []
