-- Elements that stand at one place: of one dimension, on one set of nodes.
use Rattle.std.specs.Prelude.{ℕ, ◌-◌, ◌≤◌, Bool, ◌&&◌, ◌==◌, List, [], ◌++◌, length, map, filter, take, get_or, replicate, pos, nat_eq}
use Rattle.std.specs.List.{AllByRecursion, position_or_len}
use Rattle.plain_lists.specs.Lists.{same_list, same_set, sorted}
use Rattle.input_defs.specs.Content.{Element, Content}
use Rattle.input_defs.specs.Meshes.{dim, same_place, kept_after, is_top}

-- up to eight nodes, none of which has the number 0
pub record IsPlace (nodes : List ℕ) : Type 0 where
  pub few : length nodes ≤ 8
  pub numbers : AllByRecursion (λ n. 1 ≤ n) nodes

-- an element of this dimension stands on these nodes
abbrev pub stands_on : ℕ → List ℕ → Element → Bool
stands_on d nodes e = (d == dim e) && same_set nodes e.nodes

-- for each element the place in the list of the first one where it stands
abbrev pub firsts_of : List Element → List ℕ
firsts_of elements = map (λ e. position_or_len (same_place e) elements) elements

-- the element at a place in the list; past the last one there is none, and this is one without nodes
abbrev pub element_at : List Element → ℕ → Element
element_at elements i = get_or elements i (record { number = 0; kind = 0; physical = pos 0; nodes = [] })

-- how many of the first i elements become cells
abbrev pub cells_before : Content → ℕ → ℕ
cells_before c i = length (filter (is_top c) (kept_after [] (take i c.elements)))

-- ---- keys

-- up to eight numbers, rising, with 0 before them
unfoldable pub filled : List ℕ → List ℕ
filled numbers = sorted (replicate (8 - length numbers) 0 ++ numbers)

abbrev pub key_of : Element → ℕ × List ℕ
key_of e = (dim e, filled e.nodes)

abbrev pub same_key : ℕ × List ℕ → ℕ × List ℕ → Bool
same_key a b = nat_eq a.0 b.0 && same_list a.1 b.1

-- an element has this key
abbrev pub has_key : ℕ × List ℕ → Element → Bool
has_key key e = same_key key (key_of e)
