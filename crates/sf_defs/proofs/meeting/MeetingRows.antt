-- Worked rows: a root with a leaf of rank 0 and three of rank 1, and another root with one leaf of rank 1. Two leaves on the first root
-- have the key 7, 1 with ids 40 and 30; the leaf on the other root has it too, with the id 20.
use Rattle.std.proofs.Common.{◌≡◌, ℕ, List, [], ◌∷◌, refl}
use Rattle.sf_defs.specs.Forest.{Forest, leaf, root_of}
use Rattle.sf_defs.specs.meeting.Meeting.{ids_meeting, met_id}

abbrev two_roots : Forest
two_roots = record { roots = 2 ∷ 0 ∷ []; leaves = (leaf 0 (0, 0) ∷ []) ∷ (leaf 0 (0, 0) ∷ leaf 2 (0, 0) ∷ leaf 3 (0, 1) ∷ leaf 4 (0, 0) ∷ []) ∷ [] }

abbrev keys : List (List (List ℕ))
keys = ((7 ∷ 1 ∷ []) ∷ []) ∷ ((7 ∷ 2 ∷ []) ∷ (7 ∷ 1 ∷ []) ∷ (7 ∷ 1 ∷ []) ∷ (7 ∷ 1 ∷ []) ∷ (7 ∷ 2 ∷ []) ∷ []) ∷ []

abbrev ids : List (List ℕ)
ids = (40 ∷ []) ∷ (50 ∷ 10 ∷ 30 ∷ 20 ∷ 60 ∷ []) ∷ []

ids_on_a_key : ids_meeting two_roots keys ids (0, 0) (7 ∷ 1 ∷ []) ≡ 40 ∷ 30 ∷ []
unfolding ids_meeting
ids_on_a_key = refl

-- the leaves of one root and key meet across ranks
across_ranks : met_id two_roots keys ids 0 0 ≡ 30
unfolding ids_meeting root_of
across_ranks = refl

least_itself : met_id two_roots keys ids 1 2 ≡ 30
unfolding ids_meeting root_of
least_itself = refl

-- and on one rank
on_one_rank : met_id two_roots keys ids 1 4 ≡ 50
unfolding ids_meeting root_of
on_one_rank = refl

-- a leaf on another root meets none of them
other_root : met_id two_roots keys ids 1 3 ≡ 20
unfolding ids_meeting root_of
other_root = refl

-- where no leaf is, the id stays
no_leaf : met_id two_roots keys ids 1 1 ≡ 10
unfolding ids_meeting root_of
no_leaf = refl
