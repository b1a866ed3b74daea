-- Rows that lie one after another in one list.
use Rattle.std.specs.Prelude.{ℕ, ◌+◌, ◌-◌, List, length, map, get_or, slice_range}
use Rattle.plain_lists.specs.Lists.{below}

-- row k lies from the kth place to the next
abbrev pub part : {X : Type 0} → List X → List ℕ → ℕ → List X
part items firsts k = slice_range items (get_or firsts k 0) (get_or firsts (k + 1) 0)

-- one row fewer than there are places
unfoldable pub rows : {X : Type 0} → List X → List ℕ → List (List X)
rows items firsts = map (part items firsts) (below (length firsts - 1))
