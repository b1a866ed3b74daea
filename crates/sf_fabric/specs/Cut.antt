-- Lists that lie one after another in one list, cut at places.
use Rattle.std.specs.Prelude.{◌≡◌, ℕ, ◌+◌, ◌-◌, ◌<◌, ◌≤◌, List, [], ◌∷◌, length, map, get_or, take, drop, slice_range}
use Rattle.plain_lists.specs.Lists.{below}

-- list k lies from the kth place to the next
abbrev pub part : {X : Type 0} → List X → List ℕ → ℕ → List X
part items firsts k = slice_range items (get_or firsts k 0) (get_or firsts (k + 1) 0)

-- one list fewer than there are places
unfoldable pub cut : {X : Type 0} → List X → List ℕ → List (List X)
cut items firsts = map (part items firsts) (below (length firsts - 1))

-- the places go from 0 to the number of items, and do not fall
pub record AreCuts {X : Type 0} (items : List X) (firsts : List ℕ) : Type 0 where
  pub some : 1 ≤ length firsts
  pub begins : get_or firsts 0 0 ≡ 0
  pub rising : (k : ℕ) → k + 1 < length firsts → get_or firsts k 0 ≤ get_or firsts (k + 1) 0
  pub ends : get_or firsts (length firsts - 1) 0 ≡ length items

-- the items shared out in their order, so many to each list
abbrev pub shared : {X : Type 0} → List ℕ → List X → List (List X)
shared [] items = []
shared (n ∷ ns) items = take n items ∷ shared ns (drop n items)
