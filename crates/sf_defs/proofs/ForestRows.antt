-- Worked rows of forests: two small forests on two ranks, and what is made of them.
use Rattle.std.proofs.Common.{◌≡◌, ℕ, true, false, List, [], ◌∷◌, map, Some, None, refl}
use Rattle.sf_defs.specs.declared.Leaf.{Leaf}
use Rattle.sf_defs.specs.Forest.{Forest, leaf, root_of, root_range, leaf_twice, flaw, compose, degree, shared_root, leaf_of, invert, embed_roots, embed_leaves}

abbrev forest : List ℕ → List (List Leaf) → Forest
forest roots leaves = record { roots = roots; leaves = leaves }

-- two roots on rank 0, and two leaves of rank 1 on them
abbrev first : Forest
first = forest (2 ∷ 0 ∷ []) ([] ∷ (leaf 0 (0, 1) ∷ leaf 3 (0, 0) ∷ []) ∷ [])

-- four roots on rank 1, with leaves of both ranks
abbrev second : Forest
second = forest (0 ∷ 4 ∷ []) ((leaf 5 (1, 3) ∷ leaf 6 (1, 1) ∷ []) ∷ (leaf 9 (1, 0) ∷ []) ∷ [])

-- one root on rank 0, with a leaf of rank 0 and two of rank 1
abbrev one_root : Forest
one_root = forest (1 ∷ 0 ∷ []) ((leaf 0 (0, 0) ∷ []) ∷ (leaf 0 (0, 0) ∷ leaf 1 (0, 0) ∷ []) ∷ [])

looked_up : map (root_of first 1) (0 ∷ 1 ∷ 3 ∷ []) ≡ Some (0, 1) ∷ None ∷ Some (0, 0) ∷ []
unfolding root_of
looked_up = refl

-- the leaf 6 of the second falls away: its root is no leaf of the first
composed : compose first second ≡ forest (2 ∷ 0 ∷ []) ((leaf 5 (0, 0) ∷ []) ∷ (leaf 9 (0, 1) ∷ []) ∷ [])
unfolding root_of compose
composed = refl

inverted : invert first (0 ∷ 4 ∷ []) ≡ forest (0 ∷ 4 ∷ []) ((leaf 0 (1, 3) ∷ leaf 1 (1, 0) ∷ []) ∷ [] ∷ [])
unfolding leaf_of invert
inverted = refl

kept_root : embed_roots first ((false ∷ true ∷ []) ∷ [] ∷ []) ≡ forest (2 ∷ 0 ∷ []) ([] ∷ (leaf 0 (0, 1) ∷ []) ∷ [])
unfolding embed_roots
kept_root = refl

kept_leaf : embed_leaves first ([] ∷ (false ∷ true ∷ []) ∷ []) ≡ forest (2 ∷ 0 ∷ []) ([] ∷ (leaf 3 (0, 0) ∷ []) ∷ [])
unfolding embed_leaves
kept_leaf = refl

degrees : (degree one_root 0 0 ≡ 3) × (degree first 0 1 ≡ 1)
unfolding degree
degrees = (refl, refl)

shared : (shared_root one_root ≡ Some (0, 0)) × (shared_root first ≡ None)
unfolding degree shared_root
shared = (refl, refl)

-- a leaf on a root that is not there; two leaves of a rank with one local index; none of both
flaws : map flaw (forest (1 ∷ 0 ∷ []) ([] ∷ (leaf 0 (0, 1) ∷ []) ∷ []) ∷ forest (1 ∷ 0 ∷ []) ([] ∷ (leaf 4 (0, 0) ∷ leaf 4 (0, 0) ∷ []) ∷ []) ∷ first ∷ second ∷ one_root ∷ [])
    ≡ Some (root_range 1 0) ∷ Some (leaf_twice 1 4) ∷ None ∷ None ∷ None ∷ []
unfolding flaw
flaws = refl
