-- A forest from its lists, and how often its roots are named.
use Rattle.std.specs.Prelude.{◌≡◌, ℕ, ◌^◌, ◌<◌, ◌≤◌, ◌==◌, List, [], length, map, get_or, find, sum_by, sum, Option, option_map}
use Rattle.sf_defs.specs.declared.Leaf.{Leaf}
use Rattle.sf_defs.specs.Forest.{Forest, IsForest, root_at, degree}

abbrev pub forest_of : List ℕ → List (List Leaf) → Forest
forest_of roots leaves = record { roots = roots; leaves = leaves }

-- what forests may be made of: 1 to 64 ranks, and numbers of 32 bits for all roots and for all leaves
pub record IsForRanks (f : Forest) : Type 0 where
  pub ranks : length f.leaves ≡ length f.roots
  pub some_rank : 1 ≤ length f.roots
  pub few_ranks : length f.roots ≤ 64
  pub few_roots : sum f.roots < 2 ^ 32
  pub few_leaves : sum_by length f.leaves < 2 ^ 32

-- the number that stands for root (rank, index)
abbrev pub count_at : List (List ℕ) → ℕ → ℕ → ℕ
count_at counts rank index = get_or (get_or counts rank []) index 0

-- the leaf's root has a number
abbrev pub HasCount : List (List ℕ) → Leaf → Type 0
HasCount counts l = l.index < length (get_or counts l.rank [])

-- the root of the leaf at a local index, among the leaves of one rank
abbrev pub own_root : List Leaf → ℕ → Option (ℕ × ℕ)
own_root leaves local = option_map root_at (find (λ (l : Leaf). l.local == local) leaves)

-- what a forest keeps: it is one, and each root has its degree
pub record IsKept (f : Forest) (counts : List (List ℕ)) : Type 0 where
  pub right : IsForest f
  pub for_ranks : IsForRanks f
  pub shape : map length counts ≡ f.roots
  pub degrees : (rank index : ℕ) → count_at counts rank index ≡ degree f rank index
