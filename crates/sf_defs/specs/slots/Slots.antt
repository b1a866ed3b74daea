-- Slots, after the multi-SF of PetscSF: at each root as many as it has leaves. Those of a root are adjacent, and roots stand in order.
use Rattle.std.specs.Prelude.{◌≡◌, ℕ, ◌+◌, ◌<◌, ◌==◌, List, length, map, zip, filter, flat_map, sum_by, count_by}
use Rattle.std.specs.List.{enumerate_from, AllByRecursion}
use Rattle.plain_lists.specs.Lists.{below}
use Rattle.sf_defs.specs.declared.Leaf.{Leaf}
use Rattle.sf_defs.specs.Forest.{Forest, leaf, degree, is_on_root, roots_on}

-- the first slot of a root: before it stand the slots of the earlier roots of its rank
unfoldable pub first_slot : Forest → ℕ → ℕ → ℕ
first_slot f rank index = sum_by (degree f rank) (below index)

-- the first slot of each root of a rank, and behind them how many slots the rank has
abbrev pub first_slots_on : Forest → ℕ → ℕ → List ℕ
first_slots_on f rank roots = map (first_slot f rank) (below (roots + 1))

-- the first slots of all ranks
unfoldable pub first_slots : Forest → List (List ℕ)
first_slots f = map (λ r. first_slots_on f r.0 r.1) (enumerate_from 0 f.roots)

-- how many slots each rank has
unfoldable pub slot_counts : Forest → List ℕ
slot_counts f = map (λ r. first_slot f r.0 r.1) (enumerate_from 0 f.roots)

-- the leaf on slot n of its root
abbrev pub slot_leaf : Forest → Leaf × ℕ → Leaf
slot_leaf f x = leaf x.0.local (x.0.rank, first_slot f x.0.rank x.0.index + x.1)

-- the leaves of a rank, each on the slot of its root that it drew
abbrev pub slot_leaves : Forest → List Leaf → List ℕ → List Leaf
slot_leaves f leaves drawn = map (slot_leaf f) (zip leaves drawn)

-- the same leaves in their order, with the slots as roots
unfoldable pub slotted : Forest → List (List ℕ) → Forest
slotted f drawn = record { roots = slot_counts f; leaves = map (λ r. slot_leaves f r.0 r.1) (zip f.leaves drawn) }

-- of the leaves of one rank, what those on a root drew
abbrev pub own_drawn_at : ℕ × ℕ → List Leaf × List ℕ → List ℕ
own_drawn_at root r = map (λ (x : Leaf × ℕ). x.1) (filter (λ (x : Leaf × ℕ). is_on_root root x.0) (zip r.0 r.1))

-- what the leaves on a root drew
unfoldable pub drawn_at : Forest → List (List ℕ) → ℕ × ℕ → List ℕ
drawn_at f drawn root = flat_map (own_drawn_at root) (zip f.leaves drawn)

-- each leaf drew a number, and those on a root of n leaves drew 0 to n - 1, each once
pub record AreDraws (f : Forest) (drawn : List (List ℕ)) : Type 0 where
  pub shape : map length drawn ≡ map length f.leaves
  pub within : (rank index : ℕ) → AllByRecursion (λ n. n < degree f rank index) (drawn_at f drawn (rank, index))
  pub each_once : (rank index n : ℕ) → n < degree f rank index → count_by (λ d. d == n) (drawn_at f drawn (rank, index)) ≡ 1

-- a forest whose roots are slots, and where the slots of the roots of another forest begin
pub record Slots : Type 0 where
  pub forest : Forest
  pub firsts : List (List ℕ)

-- these are slots for the leaves of f: which leaf has which slot of its root was drawn
pub record AreSlotsOf (f : Forest) (s : Slots) : Type 0 where
  pub drawn : List (List ℕ)
  pub draws : AreDraws f drawn
  pub forest : s.forest ≡ slotted f drawn
  pub firsts : s.firsts ≡ first_slots f

-- each root has exactly one leaf
abbrev pub HasLoneLeaves : Forest → Type 0
HasLoneLeaves m = (rank index : ℕ) → index < roots_on m rank → degree m rank index ≡ 1
