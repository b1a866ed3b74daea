-- The supports of all points, and how they are stored.
use Rattle.std.specs.Prelude.{ℕ, ◌+◌, ◌-◌, ◌<◌, ◌≤◌, List, length, map, get_or, slice_range}
use Rattle.plain_lists.specs.Lists.{below}
use Rattle.mesh_defs.specs.Diagram.{Diagram}
use Rattle.plex_defs.specs.Closure.{support}

-- the supports of the points, by their numbers
unfoldable pub supports_of : Diagram → List (List ℕ)
supports_of x = map (support x) (below (length x.points))

-- ---- how they are stored

-- list p of those that stand one after the other
abbrev pub segment : List ℕ → List ℕ → ℕ → List ℕ
segment starts points p = slice_range points (get_or starts p 0) (get_or starts (p + 1) 0)

-- the lists, each from its start to the next
abbrev pub segments : List ℕ → List ℕ → List (List ℕ)
segments starts points = map (segment starts points) (below (length starts - 1))

-- each list stands within all points
pub record IsSegmented (starts points : List ℕ) : Type 0 where
  pub rising : (p : ℕ) → p + 1 < length starts → get_or starts p 0 ≤ get_or starts (p + 1) 0
  pub within : (p : ℕ) → p < length starts → get_or starts p 0 ≤ length points
