-- Plain lists of numbers.
use Rattle.std.specs.Prelude.{ℕ, zero, suc, Bool, true, not, ◌&&◌, List, [], ◌∷◌, ◌++◌, map, get_or, nat_eq, nat_le, if◌then◌else◌}
use Rattle.std.specs.List.{list_any}
use lib.Pointwise.{pointwise}

-- the numbers below n, rising
abbrev pub below : ℕ → List ℕ
below zero = []
below (suc n) = below n ++ n ∷ []

-- two lists are equal
abbrev pub same_list : List ℕ → List ℕ → Bool
same_list = pointwise nat_eq

-- x at its place in a rising list
abbrev pub inserted : ℕ → List ℕ → List ℕ
inserted x [] = x ∷ []
inserted x (y ∷ ys) = if nat_le x y then x ∷ y ∷ ys else y ∷ inserted x ys

-- the same numbers, rising
unfoldable pub sorted : List ℕ → List ℕ
sorted [] = []
sorted (x ∷ xs) = inserted x (sorted xs)

-- the entries of xs at these places
abbrev pub picked : List ℕ → List ℕ → List ℕ
picked xs places = map (λ k. get_or xs k 0) places

-- two lists have the same entries, each as often
abbrev pub same_set : List ℕ → List ℕ → Bool
same_set xs ys = same_list (sorted xs) (sorted ys)

-- no two lists have the same entries
abbrev pub differ_as_sets : List (List ℕ) → Bool
differ_as_sets [] = true
differ_as_sets (x ∷ xs) = not (list_any (same_set x) xs) && differ_as_sets xs
