-- A worked row: place 1 of rank 0 has a copy at place 0 of rank 1 and one at place 1 of rank 2.
use Rattle.std.proofs.Common.{◌≡◌, ℕ, List, [], ◌∷◌, refl}
use Rattle.sf_defs.specs.Forest.{Forest, leaf, root_of}
use Rattle.sf_defs.specs.sums.Sums.{home, sum_at}

abbrev copied : Forest
copied = record { roots = 2 ∷ 1 ∷ 2 ∷ []; leaves = [] ∷ (leaf 0 (0, 1) ∷ []) ∷ (leaf 1 (0, 1) ∷ []) ∷ [] }

abbrev words : List (List ℕ)
words = (100 ∷ 4 ∷ []) ∷ (20 ∷ []) ∷ (7 ∷ 3 ∷ []) ∷ []

at_the_root : sum_at copied words (home copied 0 1) ≡ 27
unfolding root_of sum_at
at_the_root = refl

at_a_copy : sum_at copied words (home copied 2 1) ≡ 27
unfolding root_of sum_at
at_a_copy = refl

without_copies : sum_at copied words (home copied 2 0) ≡ 7
unfolding root_of sum_at
without_copies = refl
