-- What each rank holds and owns, at any overlap. A part assigns a rank to each cell, as a list by the cells' places.
use Rattle.std.specs.Prelude.{◌≡◌, ℕ, zero, suc, ◌<◌, ◌≤◌, min, Bool, not, ◌||◌, ◌==◌, List, [], ◌∷◌, length, map, filter, find, fold, slice_index, Option, Some, None, option_map, unwrap_or}
use Rattle.std.specs.List.{list_any, AllByRecursion}
use Rattle.mesh_defs.specs.Mesh.{Mesh, Cell, placed_cells}
use Rattle.mesh_defs.specs.Points.{Point, Sight, point_of, shows, sights, contains}
use Rattle.mesh_defs.specs.Diagram.{chart}

-- each cell has one of n ranks
pub record IsAssignment (m : Mesh) (n : ℕ) (a : List ℕ) : Type 0 where
  pub count : length a ≡ length m.cells
  pub in_range : AllByRecursion (λ r. r < n) a

-- a right assignment: each cell of the mesh has one of 1 to 64 ranks
pub record IsRightAssignment (m : Mesh) (n : ℕ) (a : List ℕ) : Type 0 where
  pub some_rank : 1 ≤ n
  pub few_ranks : n ≤ 64
  pub each : IsAssignment m n a

-- the least of some numbers
abbrev pub least : List ℕ → Option ℕ
least [] = None
least (x ∷ xs) = Some (fold min x xs)

-- the rank to which a cell is assigned
abbrev pub rank_of : List ℕ → ℕ × Cell → ℕ
rank_of a c = slice_index a c.0

-- ---- cells

-- the cells that are assigned to a rank
unfoldable pub assigned : Mesh → List ℕ → ℕ → List (ℕ × Cell)
assigned m a r = filter (λ c. rank_of a c == r) (placed_cells m)

-- two cells share a vertex
abbrev pub touches : Cell → Cell → Bool
touches c d = list_any (λ v. list_any (λ w. v == w) d.vertices) c.vertices

-- these cells and each one that shares a vertex with one of them
unfoldable pub layer : Mesh → List (ℕ × Cell) → List (ℕ × Cell)
layer m cells = filter (λ (c : ℕ × Cell). list_any (λ (d : ℕ × Cell). (c.0 == d.0) || touches c.1 d.1) cells) (placed_cells m)

-- the cells that a rank holds with k layers of overlap
unfoldable pub held_cells : Mesh → List ℕ → ℕ → ℕ → List (ℕ × Cell)
held_cells m a r zero = assigned m a r
held_cells m a r (suc k) = layer m (held_cells m a r k)

-- ---- points

-- the points that a rank holds, in the order of its local chart: a point's local number is its place here
unfoldable pub held : Mesh → List ℕ → ℕ → ℕ → List Sight
held m a r k = chart m (held_cells m a r k)

-- the ranks of the cells that contain a point
unfoldable pub ranks_at : Mesh → List ℕ → Point → List ℕ
ranks_at m a p = map (rank_of a) (filter (λ (c : ℕ × Cell). contains c.1 p) (placed_cells m))

-- the owner of a point: the least rank with an assigned cell that contains it; 0 where no cell does
unfoldable pub owner : Mesh → List ℕ → Point → ℕ
owner m a p = unwrap_or (least (ranks_at m a p)) 0

-- cells of two or more ranks contain the point
unfoldable pub is_shared : Mesh → List ℕ → Point → Bool
is_shared m a p = list_any (λ r. not (r == owner m a p)) (ranks_at m a p)

-- the points that a rank owns, in the order of its chart without overlap
unfoldable pub owned : Mesh → List ℕ → ℕ → List Sight
owned m a r = filter (λ s. owner m a (point_of s) == r) (held m a r 0)

-- the least 64c + place over the assigned cells c of a rank that contain a face or an edge
unfoldable pub own_key : Mesh → List ℕ → ℕ → Point → Option ℕ
own_key m a r p = option_map (λ (s : Sight). s.key) (find (shows p) (sights (assigned m a r)))
