-- The home round as one fetch-and-op on a forest: roots are the words, leaves the points that a rank has and does not own.
use Rattle.std.specs.Prelude.{◌≡◌, ℕ, ◌<◌, true, ◌==◌, ◌++◌, if◌then◌else◌, List, [], length, map, filter_map, flat_map, get_or, Option, Some, None, option_map}
use Rattle.std.specs.List.{list_any, enumerate_from}
use Rattle.plain_lists.specs.Lists.{below}
use Rattle.mesh_defs.specs.Mesh.{Mesh}
use Rattle.mesh_defs.specs.Points.{Point, same_point}
use Rattle.sf_defs.specs.declared.Leaf.{Leaf}
use Rattle.sf_defs.specs.Forest.{Forest, leaf}
use Rattle.rank_defs.specs.Ranks.{owner, own_key}
use Rattle.rank_defs.specs.Home.{home_points, home_words}
use Rattle.rank_laws.specs.orient_laws.Named.{home_part}

-- the points that a rank has words for
abbrev pub home_of : Mesh → List ℕ → ℕ → List Point
home_of m a r = home_part m a r 2 ++ home_part m a r 1

-- how many words each rank has
unfoldable pub home_counts : Mesh → List ℕ → ℕ → List ℕ
home_counts m a n = map (λ r. length (home_of m a r)) (below n)

-- the first values of the words, by rank
unfoldable pub home_values : Mesh → List ℕ → ℕ → List (List ℕ)
home_values m a n = map (λ r. home_words m a (home_of m a r)) (below n)

-- the words as roots, each with its point
unfoldable pub home_roots : Mesh → List ℕ → ℕ → List ((ℕ × ℕ) × Point)
home_roots m a n = flat_map (λ r. map (λ (w : ℕ × Point). ((r, w.0), w.1)) (enumerate_from 0 (home_of m a r))) (below n)

-- the leaf of a rank on a word whose point it has and does not own; `local` numbers its points
abbrev pub home_leaf : Mesh → List ℕ → (ℕ → Point → ℕ) → ℕ → (ℕ × ℕ) × Point → Option Leaf
home_leaf m a local r w = if owner m a w.1 == r then None else option_map (λ (k : ℕ). leaf (local r w.1) w.0) (own_key m a r w.1)

-- the forest of the words
unfoldable pub home_forest : Mesh → List ℕ → ℕ → (ℕ → Point → ℕ) → Forest
home_forest m a n local = record { roots = home_counts m a n; leaves = map (λ r. filter_map (home_leaf m a local r) (home_roots m a n)) (below n) }

-- each rank's values have, at its number of a point of a word, the rank's own key of the point
abbrev pub HaveOwnKeys : Mesh → List ℕ → ℕ → (ℕ → Point → ℕ) → List (List ℕ) → Type 0
HaveOwnKeys m a n local values = (r : ℕ) → r < n → (p : Point) → list_any (same_point p) (home_points m a n) ≡ true → (k : ℕ) → own_key m a r p ≡ Some k → get_or (get_or values r []) (local r p) 0 ≡ k
