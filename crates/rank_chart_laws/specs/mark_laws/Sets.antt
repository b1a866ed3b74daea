-- Sets of up to eight vertices.
use Rattle.std.specs.Prelude.{ℕ, ◌-◌, ◌<◌, ◌≤◌, List, ◌++◌, length, replicate}
use Rattle.std.specs.List.{AllByRecursion}
use Rattle.plain_lists.specs.Lists.{sorted}

-- what stands behind the vertices of a set of fewer than eight
abbrev pub no_vertex : ℕ
no_vertex = 4294967295

-- up to eight vertices, rising, with what is no vertex behind them
unfoldable pub filled : List ℕ → List ℕ
filled vertices = sorted (vertices ++ replicate (8 - length vertices) no_vertex)

-- at most eight vertices
pub record IsShort (vertices : List ℕ) : Type 0 where
  pub few : length vertices ≤ 8
  pub low : AllByRecursion (λ v. v < no_vertex) vertices
