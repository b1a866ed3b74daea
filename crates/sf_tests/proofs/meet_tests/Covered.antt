-- The leaves of the two roots have keys and ids.
use Rattle.std.proofs.Common.{◌≡◌, ℕ, zero, suc, ◌<◌, List, [], ◌∷◌, length, get_or, refl, arith}
use Rattle.std.specs.List.{AllByRecursion}
use Rattle.sf_defs.specs.declared.Leaf.{Leaf}
use Rattle.sf_defs.specs.Forest.{leaves_on}
use Rattle.sf_ops.specs.Asked.{CoverLeaves}
use Rattle.sf_defs.specs.meeting.Meeting.{HaveKeys}
use Rattle.sf_tests.specs.meet_tests.TwoRoots.{two_roots}

abbrev pub keys : List (List (List ℕ))
keys = ((7 ∷ 1 ∷ []) ∷ []) ∷ ((7 ∷ 2 ∷ []) ∷ (7 ∷ 1 ∷ []) ∷ (7 ∷ 1 ∷ []) ∷ (7 ∷ 1 ∷ []) ∷ (7 ∷ 2 ∷ []) ∷ []) ∷ []

abbrev pub ids : List (List ℕ)
ids = (40 ∷ []) ∷ (50 ∷ 10 ∷ 30 ∷ 20 ∷ 60 ∷ []) ∷ []

pub have_keys : HaveKeys two_roots keys
have_keys = record { ranks = refl; places = own }
  where
    own : (rank : ℕ) → rank < 2 → AllByRecursion (λ (l : Leaf). l.local < length (get_or keys rank [])) (leaves_on two_roots rank)
    own zero h = (omega arith, tt)
    own (suc zero) h = (omega arith, (omega arith, (omega arith, (omega arith, tt))))
    own (suc (suc rank)) h = absurd (omega arith)

pub cover_ids : CoverLeaves two_roots ids
cover_ids = record { ranks = refl; places = own }
  where
    own : (rank : ℕ) → rank < 2 → AllByRecursion (λ (l : Leaf). l.local < length (get_or ids rank [])) (leaves_on two_roots rank)
    own zero h = (omega arith, tt)
    own (suc zero) h = (omega arith, (omega arith, (omega arith, (omega arith, tt))))
    own (suc (suc rank)) h = absurd (omega arith)
