-- Worked rows: four numbers, of which two are equal.
use Rattle.std.proofs.Common.{◌≡◌, ℕ, zero, suc, List, [], ◌∷◌, IsPermutation, IsSorted, refl, arith}
use Rattle.std.specs.Ordering.{nat_cmp}
use Rattle.plain_lists.specs.Lists.{sorted}

abbrev drawn : List ℕ
drawn = 3 ∷ 1 ∷ 2 ∷ 1 ∷ []

abbrev rising : List ℕ
rising = 1 ∷ 1 ∷ 2 ∷ 3 ∷ []

-- the first two change places, and then the second and the last
is_permutation : IsPermutation drawn rising
is_permutation = record { moves = (1, 3) ∷ (0, 1) ∷ []; below = (omega arith, omega arith, (omega arith, omega arith, tt)); is = refl }

is_sorted : IsSorted nat_cmp rising
is_sorted zero d low high = refl
is_sorted (suc zero) d low high = refl
is_sorted (suc (suc zero)) d low high = refl
is_sorted (suc (suc (suc k))) d low high = absurd (omega (arith, high))

sorted_numbers : sorted drawn ≡ rising
unfolding sorted
sorted_numbers = refl
