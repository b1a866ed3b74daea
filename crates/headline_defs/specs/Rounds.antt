-- The rounds that a call keeps: the home round, and then the number round of each part.
use Rattle.std.specs.Prelude.{ℕ, List, [], ◌∷◌, map, filter}
use Rattle.mesh_defs.specs.Mesh.{Mesh}
use Rattle.sf_defs.specs.Rounds.{Round}
use Rattle.rank_defs.specs.Home.{IsHomeRound, IsNumberRound}
use Rattle.input_defs.specs.Plans.{Plan, is_part}
use Rattle.input_defs.specs.States.{State, states, first_ranks}

-- a round that is to be kept, for the cells by these ranks: of the keys, or of the numbers
pub data Due : Type 0 where
  Keys : List ℕ → Due
  Numbers : List ℕ → Due

-- the rounds of a mesh and a plan in their order
unfoldable pub due : Mesh → Plan → List Due
due m plan = Keys (first_ranks m plan) ∷ map (λ (s : State). Numbers s.ranks) (filter (λ (s : State). is_part s.move) (states m plan))

-- the round is the one that is due on n ranks, and legal
abbrev pub IsDue : Mesh → ℕ → Due → Round → Type 0
IsDue m n (Keys ranks) r = IsHomeRound m ranks n r
IsDue m n (Numbers ranks) r = IsNumberRound m ranks n r

-- the rounds are the first of those that are due
abbrev pub AreFirst : Mesh → ℕ → List Due → List Round → Type 0
AreFirst m n dues [] = Unit {0}
AreFirst m n [] (r ∷ rs) = ⊥
AreFirst m n (d ∷ dues) (r ∷ rs) = IsDue m n d r × AreFirst m n dues rs

-- the rounds are those that are due
abbrev pub AreAll : Mesh → ℕ → List Due → List Round → Type 0
AreAll m n [] [] = Unit {0}
AreAll m n [] (r ∷ rs) = ⊥
AreAll m n (d ∷ dues) [] = ⊥
AreAll m n (d ∷ dues) (r ∷ rs) = IsDue m n d r × AreAll m n dues rs
