-- What the points of a rank's cells are looked up by.
use Rattle.std.specs.Prelude.{◌≡◌, ℕ, ◌<◌, Bool, false, ◌==◌, List, length, get_or}
use Rattle.std.specs.List.{list_any, AllByRecursion}
use Rattle.plain_lists.specs.Lists.{same_list, same_set}
use Rattle.mesh_defs.specs.Mesh.{Mesh, Cell}
use Rattle.local_points.specs.Points.{local_points}
use Rattle.rank_chart_laws.specs.mark_laws.Sets.{filled, IsShort}
use Rattle.dist_seed.specs.rank_cells.Own.{Held}
use Rattle.headline_laws.specs.seed_laws.Given.{vertices_of}
use Rattle.dist_seed.specs.declared.rank_marks.own_points.OwnPoints.{OwnPoints}

-- of each number below the count it is told whether it is one of these
pub record AreTold (numbers : List ℕ) (count : ℕ) (told : List Bool) : Type 0 where
  pub many : length told ≡ count
  pub each : (v : ℕ) → v < count → get_or told v false ≡ list_any (λ w. w == v) numbers

-- cells with at most eight vertices
abbrev pub AreShort : List (ℕ × Cell) → Type 0
AreShort cells = AllByRecursion (λ (c : ℕ × Cell). IsShort c.1.vertices) cells

-- one of these cells is on these vertices
abbrev pub some_on : List ℕ → List (ℕ × Cell) → Bool
some_on vertices cells = list_any (λ (c : ℕ × Cell). same_set vertices c.1.vertices) cells

-- these are the sets of some cells, each at least once
pub record HasSets (cells : List (ℕ × Cell)) (sets : List (List ℕ)) : Type 0 where
  pub found : (set : List ℕ) → list_any (same_list set) sets ≡ list_any (λ (c : ℕ × Cell). same_list set (filled c.1.vertices)) cells

-- these are the points of the cells that are held
pub record AreOwn (m : Mesh) (held : Held) (points : OwnPoints) : Type 0 where
  pub own : held.vertices ≡ vertices_of (length m.at) held.cells
  pub vertices : AreTold held.vertices (length m.at) points.vertices.items
  pub sets : HasSets held.cells points.cells.sets.keys
  pub between : points.between ≡ local_points held.cells
