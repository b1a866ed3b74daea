-- Sets of up to four vertices, packed.
use Rattle.std.specs.Prelude.{ℕ, ◌+◌, ◌*◌, ◌^◌, ◌<◌, ◌≤◌, List, [], ◌∷◌, length, get_or}
use Rattle.std.specs.List.{AllByRecursion}

-- stands in the place of a vertex that there is not
abbrev pub no_vertex : ℕ
no_vertex = 4294967295

-- the vertices of a face or an edge in rising order, two in each word, and behind them what stands for no vertex
unfoldable pub packed : List ℕ → List ℕ
packed vertices =
    let at = λ (k : ℕ). get_or vertices k no_vertex in
    (at 0 * 2 ^ 32 + at 1) ∷ (at 2 * 2 ^ 32 + at 3) ∷ []

-- at most four vertices, each below what stands for no vertex
pub record IsPackable (vertices : List ℕ) : Type 0 where
  pub few : length vertices ≤ 4
  pub numbers : AllByRecursion (λ v. v < no_vertex) vertices
