-- Points that are put in another order. Moves tell for each place to which place goes what stands there.
use Rattle.std.specs.Prelude.{◌≡◌, ℕ, ◌<◌, true, ◌==◌, List, [], map, length, get_or, filter_map, find, ℤ, Option, option_map}
use Rattle.std.specs.List.{list_any, position_or_len, enumerate_from, AllByRecursion}
use Rattle.plain_lists.specs.Lists.{below}
use Rattle.plex_defs.specs.Labels.{label_of}
use Rattle.sf_defs.specs.declared.Leaf.{Leaf}
use Rattle.sf_defs.specs.Forest.{Forest, leaf}

-- where what stands at place i goes
abbrev pub moved_place : List ℕ → ℕ → ℕ
moved_place moves i = get_or moves i 0

-- each place goes to a place of its own
pub record IsReordering (moves : List ℕ) : Type 0 where
  pub low : AllByRecursion (λ j. j < length moves) moves
  pub onto : (j : ℕ) → j < length moves → list_any (λ k. k == j) moves ≡ true
  pub once : (i k : ℕ) → i < length moves → k < length moves → moved_place moves i ≡ moved_place moves k → i ≡ k

-- a list after its entries moved: at place j stands what goes there, and `none` where nothing does
unfoldable pub moved_list : {X : Type 0} → X → List ℕ → List X → List X
moved_list none moves xs = map (λ j. get_or xs (position_or_len (λ k. k == j) moves) none) (below (length moves))

-- a label after its points moved
unfoldable pub moved_label : List ℕ → List (ℕ × ℤ) → List (ℕ × ℤ)
moved_label moves label = label_of (map (λ (pair : ℕ × ℤ). (moved_place moves pair.0, pair.1)) label)

-- ---- forests

-- the moves of a rank
abbrev pub moves_on : List (List ℕ) → ℕ → List ℕ
moves_on moves r = get_or moves r []

-- where the root of a leaf goes, as a rank and an index
abbrev pub moved_root : List (List ℕ) → Leaf → ℕ × ℕ
moved_root moves l = (l.rank, moved_place (moves_on moves l.rank) l.index)

-- of the leaves of a rank, whose moves are these, the one that goes to place j
abbrev pub leaf_moved_to : List (List ℕ) → List ℕ → List Leaf → ℕ → Option Leaf
leaf_moved_to moves own leaves j = option_map (λ (l : Leaf). leaf j (moved_root moves l)) (find (λ (l : Leaf). moved_place own l.local == j) leaves)

-- the leaves of a rank after its points moved, by rising place
abbrev pub moved_leaves : List (List ℕ) → List ℕ → List Leaf → List Leaf
moved_leaves moves own leaves = filter_map (leaf_moved_to moves own leaves) (below (length own))

-- a forest after the points of each rank moved
unfoldable pub moved_forest : List (List ℕ) → Forest → Forest
moved_forest moves f = record { roots = f.roots; leaves = map (λ r. moved_leaves moves (moves_on moves r.0) r.1) (enumerate_from 0 f.leaves) }
