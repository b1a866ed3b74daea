-- The vertices of ranks, with words that stand at their points.
use Rattle.std.specs.Prelude.{◌≡◌, ℕ, ◌+◌, ◌<◌, List, [], length, map, get_or, slice_get, Some}
use Rattle.plain_lists.specs.Lists.{below}
use Rattle.rank_defs.specs.Spread.{LocalMesh}
use Rattle.cells_at_vertices.specs.declared.counts.VertexCount.{VertexCount}

-- point p by its key, with its word
abbrev pub picked_at : LocalMesh → List ℕ → ℕ → VertexCount
picked_at l words p = record { vertex = get_or l.keys p 0; cells = get_or words p 0 }

-- the vertices, which stand behind the cells
abbrev pub picked_counts : LocalMesh → List ℕ → List VertexCount
picked_counts l words = map (λ i. picked_at l words (l.diagram.cells + i)) (below l.diagram.vertices)

-- so many vertices up to point p
pub record ArePicked (l : LocalMesh) (words : List ℕ) (p : ℕ) (counts : List VertexCount) : Type 0 where
  pub next : l.diagram.cells + length counts ≡ p
  pub are : counts ≡ map (λ i. picked_at l words (l.diagram.cells + i)) (below (length counts))

-- those of the first n ranks
pub record AreAllPicked (locals : List LocalMesh) (words : List (List ℕ)) (n : ℕ) (counts : List (List VertexCount)) : Type 0 where
  pub many : length counts ≡ n
  pub each : (r : ℕ) (l : LocalMesh) → r < n → slice_get locals r ≡ Some l → get_or counts r [] ≡ picked_counts l (get_or words r [])

-- a word for each point of each rank
pub record AreForPoints (locals : List LocalMesh) (words : List (List ℕ)) : Type 0 where
  pub many : length words ≡ length locals
  pub each : (r : ℕ) (l : LocalMesh) → slice_get locals r ≡ Some l → length (get_or words r []) ≡ length l.diagram.points
