-- What is found of the places of elements.
use Rattle.std.specs.Prelude.{◌≡◌, ℕ, ◌<◌, ◌≤◌, List, [], length, map, filter, take, slice_index}
use Rattle.std.specs.List.{AllByRecursion, position}
use Rattle.std.specs.HashMap as hash
use Rattle.std.specs.HashMap.{HashMap}
use Rattle.plex_base.specs.declared.dim.Dim.{Dim}
use Rattle.plex_base.specs.Dim.{dim_number}
use Rattle.input_defs.specs.Content.{Content}
use Rattle.input_defs.specs.Meshes.{is_top, kept_after, kept, greatest_dim, cell_elements}
use Rattle.input_laws.specs.place_laws.Places.{IsPlace, stands_on, firsts_of, element_at, cells_before, filled, same_key}

-- the places of the cells among the first i elements, and how many cells stand before each of them
pub record AreCellsUpTo (c : Content) (i : ℕ) (cells before : List ℕ) : Type 0 where
  pub cells_are : map (element_at c.elements) cells ≡ filter (is_top c) (kept_after [] (take i c.elements))
  pub in_range : AllByRecursion (λ k. k < length c.elements) cells
  pub few : length cells ≤ i
  pub before_are : (k : ℕ) → k < i → slice_index before k ≡ cells_before c k
  pub each : length before ≡ i

-- the table of keys, the firsts, the greatest dimension, the count of elements that are not merged, the places of those
-- that become cells, and how many do before each element
pub record ArePlaces {S : Type 0} (c : Content) (by_key : HashMap (ℕ × List ℕ) ℕ S) (firsts : List ℕ) (greatest : Dim) (count : ℕ) (cells before : List ℕ) : Type 0 where
  pub found : (d : ℕ) (nodes : List ℕ) → IsPlace nodes → hash.get same_key by_key (d, filled nodes) ≡ position (stands_on d nodes) c.elements
  pub firsts_are : firsts ≡ firsts_of c.elements
  pub greatest_is : dim_number greatest ≡ greatest_dim c
  pub kept_are : count ≡ length (kept c)
  pub cells_are : map (element_at c.elements) cells ≡ cell_elements c
  pub in_range : AllByRecursion (λ i. i < length c.elements) cells
  pub before_are : (i : ℕ) → i < length c.elements → slice_index before i ≡ cells_before c i
  pub each : length before ≡ length c.elements
