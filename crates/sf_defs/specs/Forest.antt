-- Star forests, after PetscSF: leaves on ranks, each of which names one root on a rank. A root may have many leaves.
use Rattle.std.specs.Prelude.{◌≡◌, ℕ, ◌+◌, ◌<◌, slice_index, Bool, false, ◌&&◌, ◌==◌, if◌then◌else◌, nat_lt, List, [], ◌∷◌, map, get_or, filter, filter_map, find, flat_map, sum_by, count_by, Option, Some, None, option_map}
use Rattle.std.specs.List.{list_any, enumerate_from, AllByRecursion}
use Rattle.plain_lists.specs.Lists.{below}
use Rattle.sf_defs.specs.declared.Leaf.{Leaf}

-- for each rank, how many roots it has, and its leaves
pub record Forest : Type 0 where
  pub roots : List ℕ
  pub leaves : List (List Leaf)

abbrev pub leaf : ℕ → ℕ × ℕ → Leaf
leaf local root = record { local = local; rank = root.0; index = root.1 }

abbrev pub root_at : Leaf → ℕ × ℕ
root_at l = (l.rank, l.index)

abbrev pub leaves_on : Forest → ℕ → List Leaf
leaves_on f rank = get_or f.leaves rank []

abbrev pub roots_on : Forest → ℕ → ℕ
roots_on f rank = get_or f.roots rank 0

-- the root, as a rank and an index, of the leaf at a local index of a rank; none where there is no leaf
unfoldable pub root_of : Forest → ℕ → ℕ → Option (ℕ × ℕ)
root_of f rank local = option_map root_at (find (λ (l : Leaf). l.local == local) (leaves_on f rank))

-- the two are the same map from leaves to roots
abbrev pub MeansSame : Forest → Forest → Type 0
MeansSame f g = (rank local : ℕ) → root_of f rank local ≡ root_of g rank local

-- ---- when lists are a forest

abbrev pub or_else : {X : Type 0} → Option X → Option X → Option X
or_else None other = other
or_else (Some x) other = Some x

-- the first that h gives of some things
abbrev pub first_some : {X Y : Type 0} → (X → Option Y) → List X → Option Y
first_some h [] = None
first_some h (x ∷ xs) = or_else (h x) (first_some h xs)

-- what is wrong at a leaf: it names no root, or an earlier leaf of the rank has its local index
pub data ForestFlaw : Type 0 where
  root_range : (rank leaf : ℕ) → ForestFlaw
  leaf_twice : (rank local : ℕ) → ForestFlaw

abbrev pub has_root : List ℕ → Leaf → Bool
has_root roots l = nat_lt l.index (get_or roots l.rank 0)

-- the first flaw among the leaves of a rank, from place i on, after these earlier ones
abbrev pub flaw_on : List ℕ → ℕ → List Leaf → ℕ → List Leaf → Option ForestFlaw
flaw_on roots rank earlier i [] = None
flaw_on roots rank earlier i (l ∷ ls) =
    if has_root roots l then (if list_any (λ (e : Leaf). e.local == l.local) earlier then Some (leaf_twice rank l.local) else flaw_on roots rank (l ∷ earlier) (i + 1) ls)
    else Some (root_range rank i)

-- the first flaw of a forest, by rank and place; none where the lists are a forest
unfoldable pub flaw : Forest → Option ForestFlaw
flaw f = first_some (λ r. flaw_on f.roots r.0 [] 0 r.1) (enumerate_from 0 f.leaves)

-- each leaf names a root that is there, and no two leaves of a rank have one local index
abbrev pub IsForest : Forest → Type 0
IsForest f = flaw f ≡ None

-- ---- what is made of forests

-- the leaf with the root that it reaches through a forest whose leaves are the other's roots
abbrev pub through : Forest → Leaf → Option Leaf
through a l = option_map (leaf l.local) (root_of a l.rank l.index)

-- First b and then a: the roots of a, and the leaves of b in their order. A leaf of b whose root is no leaf of a falls away.
unfoldable pub compose : Forest → Forest → Forest
compose a b = record { roots = a.roots; leaves = map (filter_map (through a)) b.leaves }

-- the leaf is on this root
abbrev pub is_on_root : ℕ × ℕ → Leaf → Bool
is_on_root root l = (l.rank == root.0) && (l.index == root.1)

-- how many leaves name a root
unfoldable pub degree : Forest → ℕ → ℕ → ℕ
degree f rank index = sum_by (count_by (is_on_root (rank, index))) f.leaves

-- all roots, by rank and index
abbrev pub all_roots : Forest → List (ℕ × ℕ)
all_roots f = flat_map (λ r. map (λ i. (r.0, i)) (below r.1)) (enumerate_from 0 f.roots)

-- the first root that has two leaves
unfoldable pub shared_root : Forest → Option (ℕ × ℕ)
shared_root f = find (λ root. nat_lt 1 (degree f root.0 root.1)) (all_roots f)

-- the first leaf on a root, by its rank and local index
unfoldable pub leaf_of : Forest → ℕ → ℕ → Option (ℕ × ℕ)
leaf_of f rank index = first_some (λ r. option_map (λ (l : Leaf). (r.0, l.local)) (find (is_on_root (rank, index)) r.1)) (enumerate_from 0 f.leaves)

-- the local indices of the leaves of each rank are below its number
abbrev pub FitsLocals : Forest → List ℕ → Type 0
FitsLocals f roots = (rank : ℕ) → AllByRecursion (λ (l : Leaf). l.local < slice_index roots rank) (leaves_on f rank)

-- The converse of a forest without shared roots: a root with a leaf becomes a leaf, and that leaf its root. There are
-- `roots` roots on the ranks, and the leaves of a rank stand by rising local index.
unfoldable pub invert : Forest → List ℕ → Forest
invert f roots = record {
  roots = roots;
  leaves = map (λ r. filter_map (λ i. option_map (leaf i) (leaf_of f r.0 i)) (below r.1)) (enumerate_from 0 f.roots);
}

-- the root is one of those that are kept, by rank and index
abbrev pub is_kept : List (List Bool) → ℕ × ℕ → Bool
is_kept keep root = get_or (get_or keep root.0 []) root.1 false

-- the same roots, and of the leaves those on the roots that are kept
unfoldable pub embed_roots : Forest → List (List Bool) → Forest
embed_roots f keep = record { roots = f.roots; leaves = map (filter (λ l. is_kept keep (root_at l))) f.leaves }

-- the entries whose place is kept
abbrev pub selected : {X : Type 0} → List Bool → List X → List X
selected [] xs = []
selected (b ∷ bs) [] = []
selected (b ∷ bs) (x ∷ xs) = if b then x ∷ selected bs xs else selected bs xs

-- the same roots, and of the leaves of each rank those at the places that are kept
unfoldable pub embed_leaves : Forest → List (List Bool) → Forest
embed_leaves f keep = record { roots = f.roots; leaves = map (λ r. selected (get_or keep r.0 []) r.1) (enumerate_from 0 f.leaves) }
