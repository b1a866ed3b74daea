-- Marks on points that are numbered by their places.
use Rattle.std.specs.Prelude.{◌≡◌, ℕ, true, ◌==◌, List, map, filter, ℤ}
use Rattle.std.specs.List.{list_any}
use Rattle.plain_lists.specs.Lists.{below}
use Rattle.mesh_defs.specs.Mesh.{Mesh, Mark, placed_cells}
use Rattle.mesh_defs.specs.Points.{Sight, shows, marked_point}
use Rattle.mesh_defs.specs.Diagram.{chart, place_in}
use Rattle.plex_defs.specs.Labels.{mesh_label}

-- the mark is on one of these points
abbrev pub IsAmong : List Sight → Mark → Type 0
IsAmong points k = list_any (shows (marked_point k)) points ≡ true

-- the place of a mark's point, and its value
abbrev pub marked_pair : List Sight → Mark → ℕ × ℤ
marked_pair points k = (place_in points (marked_point k), k.value)

-- those of the marks of one dimension
abbrev pub marked_pairs : List Sight → ℕ → List Mark → List (ℕ × ℤ)
marked_pairs points dim marks = map (marked_pair points) (filter (λ (k : Mark). k.dim == dim) marks)

-- the labels of the points of dimension 0 to 3, by their places in the chart of all cells
abbrev pub mesh_labels : Mesh → List (List (ℕ × ℤ))
mesh_labels m = map (λ dim. mesh_label m dim (chart m (placed_cells m))) (below 4)
