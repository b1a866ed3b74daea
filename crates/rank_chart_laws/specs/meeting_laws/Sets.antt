-- What ranks have below their cells, as sets of vertices, and which of it is the same.
use Rattle.std.specs.Prelude.{◌≡◌, ◌⊎◌, ℕ, ◌+◌, ◌<◌, ◌≤◌, ◌^◌, Bool, true, not, ◌==◌, List, [], ◌∷◌, ◌++◌, map, length, filter, get_or, sum_by}
use Rattle.std.specs.List.{list_any, position_or_len, enumerate_from, AllByRecursion}
use Rattle.plain_lists.specs.Lists.{same_list}
use Rattle.sf_defs.specs.declared.Leaf.{Leaf}
use Rattle.sf_defs.specs.Forest.{Forest, leaf}
use Rattle.rank_laws.specs.share_laws.Packed.{no_vertex}

-- up to four vertices, filled up to four numbers, so that equal sets are equal lists
abbrev pub filled : List ℕ → List ℕ
filled vertices = get_or vertices 0 no_vertex ∷ get_or vertices 1 no_vertex ∷ get_or vertices 2 no_vertex ∷ get_or vertices 3 no_vertex ∷ []

-- what a rank has: how many cells, its vertices with the owner of each, and its faces and edges as filled sets of vertices
pub record RankChart : Type 0 where
  pub cells : ℕ
  pub vertices : List ℕ
  pub owners : List ℕ
  pub sets : List (List ℕ)

-- the chart of a rank; past the last rank there is none, and this is an empty one
abbrev pub no_chart : RankChart
no_chart = record { cells = 0; vertices = []; owners = []; sets = [] }

abbrev pub chart_at : List RankChart → ℕ → RankChart
chart_at charts r = get_or charts r no_chart

-- the points below the cells, vertices first, as filled sets
abbrev pub lower_sets : RankChart → List (List ℕ)
lower_sets c = map (λ v. filled (v ∷ [])) c.vertices ++ c.sets

abbrev pub point_count : RankChart → ℕ
point_count c = c.cells + length (lower_sets c)

-- ---- the same points

abbrev pub has_set : List ℕ → RankChart → Bool
has_set s c = list_any (same_list s) (lower_sets c)

-- the first rank that has a set
abbrev pub first_with : List RankChart → List ℕ → ℕ
first_with charts s = position_or_len (has_set s) charts

-- the place of a set among all points of a rank
abbrev pub place_with : List ℕ → RankChart → ℕ
place_with s c = c.cells + position_or_len (same_list s) (lower_sets c)

-- the first rank that has a set, and the place there
abbrev pub home_of : List RankChart → List ℕ → ℕ × ℕ
home_of charts s = (first_with charts s, place_with s (chart_at charts (first_with charts s)))

-- the leaves of rank r: its points below the cells that an earlier rank has too, each on the same point of the first rank
abbrev pub set_leaves : List RankChart → ℕ → RankChart → List Leaf
set_leaves charts r c = map (λ s. leaf (c.cells + s.0) (home_of charts s.1)) (filter (λ s. not (first_with charts s.1 == r)) (enumerate_from 0 (lower_sets c)))

-- the forest of shared points, where no rank has a cell of another one
unfoldable pub forest_of_sets : List RankChart → Forest
forest_of_sets charts = record { roots = map point_count charts; leaves = map (λ r. set_leaves charts r.0 r.1) (enumerate_from 0 charts) }

-- ---- right charts

abbrev pub has_vertex : ℕ → RankChart → Bool
has_vertex v c = list_any (λ w. w == v) c.vertices

-- the first rank that has a vertex
abbrev pub first_having : List RankChart → ℕ → ℕ
first_having charts v = position_or_len (has_vertex v) charts

-- each number is below the next
abbrev pub Rising : List ℕ → Type 0
Rising vs = (i j : ℕ) → i < j → j < length vs → get_or vs i 0 < get_or vs j 0

-- a filled set of at least two vertices, all of them the rank's
pub record IsSetOf (c : RankChart) (s : List ℕ) : Type 0 where
  pub four : length s ≡ 4
  pub first : get_or s 0 no_vertex < no_vertex
  pub second : get_or s 1 no_vertex < no_vertex
  pub numbers : AllByRecursion (λ v. v ≤ no_vertex) s
  pub inside : AllByRecursion (λ v. (v ≡ no_vertex) ⊎ (has_vertex v c ≡ true)) s

-- rising vertices, each owned by the first rank that has it, and sets of them
pub record IsRankChart (charts : List RankChart) (c : RankChart) : Type 0 where
  pub owners : c.owners ≡ map (first_having charts) c.vertices
  pub rising : Rising c.vertices
  pub numbers : AllByRecursion (λ v. v < no_vertex) c.vertices
  pub sets : AllByRecursion (IsSetOf c) c.sets

-- right charts of 1 to 64 ranks, with fewer than 2^32 points in all
pub record AreRankCharts (charts : List RankChart) : Type 0 where
  pub some_rank : 1 ≤ length charts
  pub few_ranks : length charts ≤ 64
  pub few_points : sum_by point_count charts < 2 ^ 32
  pub each : AllByRecursion (IsRankChart charts) charts
