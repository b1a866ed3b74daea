-- The faces and edges of a list of cells, and where each cell has them.
use Rattle.std.specs.Prelude.{ℕ, ◌+◌, List, [], ◌∷◌, ◌++◌, length, map, flat_map, get_or, take, if◌then◌else◌}
use Rattle.std.specs.List.{list_any}
use Rattle.plain_lists.specs.Lists.{below}
use Rattle.mesh_defs.specs.Mesh.{Cell}
use Rattle.mesh_defs.specs.Points.{Sight, point_of, shows, cell_faces, cell_edges}
use Rattle.mesh_defs.specs.Diagram.{firsts, place_in}
use Rattle.local_points.specs.Cells.{faces_seen, edges_seen}

-- the places among points of what is seen
abbrev pub places_in : List Sight → List Sight → List ℕ
places_in points seen = map (λ s. place_in points (point_of s)) seen

-- points after one more sight: it is new where none of them shows its point
abbrev pub with_sight : List Sight → Sight → List Sight
with_sight points s = if list_any (shows (point_of s)) points then points else points ++ s ∷ []

-- how much the first n cells have
abbrev pub count_before : (ℕ × Cell → List Sight) → List (ℕ × Cell) → ℕ → ℕ
count_before has cells n = length (flat_map has (take n cells))

-- where what each cell has begins in one list of all, and where the last one ends
abbrev pub beginnings : (ℕ × Cell → List Sight) → List (ℕ × Cell) → List ℕ
beginnings has cells = map (count_before has cells) (below (length cells + 1))

-- The faces and the edges, each as it is seen first, and for each cell the places of its faces and of its edges among
-- them, in the order of the cell's table.
pub record Local : Type 0 where
  pub faces : List Sight
  pub edges : List Sight
  pub face_places : List (List ℕ)
  pub edge_places : List (List ℕ)

-- the faces and the edges of a list of cells
abbrev pub faces_among : List (ℕ × Cell) → List Sight
faces_among cells = firsts (faces_seen cells)

abbrev pub edges_among : List (ℕ × Cell) → List Sight
edges_among cells = firsts (edges_seen cells)

-- for each cell the places of its faces, and of its edges
abbrev pub face_places : List (ℕ × Cell) → List (List ℕ)
face_places cells = map (λ (c : ℕ × Cell). places_in (faces_among cells) (cell_faces c.0 c.1)) cells

abbrev pub edge_places : List (ℕ × Cell) → List (List ℕ)
edge_places cells = map (λ (c : ℕ × Cell). places_in (edges_among cells) (cell_edges c.0 c.1)) cells

-- all of these
abbrev pub local_points : List (ℕ × Cell) → Local
local_points cells = record { faces = faces_among cells; edges = edges_among cells; face_places = face_places cells; edge_places = edge_places cells }

-- row i; past the last one there is none
abbrev pub row_at : List (List ℕ) → ℕ → List ℕ
row_at rows i = get_or rows i []
