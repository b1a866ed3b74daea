-- What a rank counts by itself: for each point of its diagram the cells that have it in their closure.
use Rattle.std.specs.Prelude.{◌≡◌, ℕ, ◌+◌, ◌<◌, ◌==◌, List, [], length, map, count_by, get_or, slice_get, pos, Some}
use Rattle.plain_lists.specs.Lists.{below}
use Rattle.mesh_defs.specs.declared.ConeEntry.{ConeEntry}
use Rattle.mesh_defs.specs.Mesh.{Mesh}
use Rattle.mesh_defs.specs.Diagram.{Diagram, IsAccepted}
use Rattle.plex_defs.specs.Closure.{covers}
use Rattle.plex_chart.specs.Chart.{IsPlex}
use Rattle.walk_defs.specs.Cones.{closure_by_cones}
use Rattle.rank_defs.specs.Spread.{LocalMesh, PlainDist, IsDist}

-- how many of the first n cells of a diagram have point p in their closure
abbrev pub closures_with : Diagram → ℕ → ℕ → ℕ
closures_with x n p = count_by (λ c. covers (closure_by_cones x c (pos 0)) p) (below n)

-- for each point how many cells have it
abbrev pub closure_counts : Diagram → List ℕ
closure_counts x = map (closures_with x x.cells) (below (length x.points))

-- the counts of all points by the first n cells
pub record AreCounts (x : Diagram) (n : ℕ) (counts : List ℕ) : Type 0 where
  pub many : length counts ≡ length x.points
  pub each : (p : ℕ) → p < length counts → get_or counts p 0 ≡ closures_with x n p

-- each count is greater by the number of these entries that are of its point
pub record IsCounted (entries : List ConeEntry) (before after : List ℕ) : Type 0 where
  pub many : length after ≡ length before
  pub each : (p : ℕ) → p < length before → get_or after p 0 ≡ get_or before p 0 + count_by (λ (e : ConeEntry). e.point == p) entries

-- the counts of the first n ranks, each of which has a whole diagram
pub record AreOwnCounts (locals : List LocalMesh) (n : ℕ) (counts : List (List ℕ)) : Type 0 where
  pub many : length counts ≡ n
  pub whole : (r : ℕ) (l : LocalMesh) → r < n → slice_get locals r ≡ Some l → IsPlex l.diagram
  pub each : (r : ℕ) (l : LocalMesh) → r < n → slice_get locals r ≡ Some l → get_or counts r [] ≡ closure_counts l.diagram

-- ---- of a mesh

-- the ranks hold an accepted mesh without overlap
pub record IsOf (d : PlainDist) (m : Mesh) (a : List ℕ) (n : ℕ) : Type 0 where
  pub dofs : List (List ℕ)
  pub dist : IsDist d m dofs a n 0
  pub accepted : IsAccepted m

-- some such mesh
pub record IsOfSome (d : PlainDist) : Type 0 where
  pub m : Mesh
  pub a : List ℕ
  pub n : ℕ
  pub is : IsOf d m a n
