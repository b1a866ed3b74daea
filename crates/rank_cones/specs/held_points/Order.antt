-- Orders of things by their keys.
use Rattle.std.specs.Prelude.{◌≡◌, ℕ, ◌<◌, List, length, map, get_or, slice_index, IsPermutation}
use Rattle.std.specs.List.Sorted.{IsNonDecreasingBy}
use Rattle.plain_lists.specs.Lists.{below}

-- the places of some keys, in an order in which the keys do not fall
pub record IsOrder (keys order : List ℕ) : Type 0 where
  pub same : IsPermutation (below (length keys)) order
  pub rising : IsNonDecreasingBy (λ k. slice_index keys k) order

-- each key with its place
abbrev pub placed : List ℕ → List (ℕ × ℕ)
placed keys = map (λ k. (get_or keys k 0, k)) (below (length keys))

-- the places in an order are these
pub record AreMoves (order moves : List ℕ) : Type 0 where
  pub count : length moves ≡ length order
  pub places : (k : ℕ) → k < length order → slice_index moves (slice_index order k) ≡ k
