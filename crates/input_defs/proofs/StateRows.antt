-- Worked rows: the steps of a plan on eight cells.
use Rattle.std.proofs.Common.{◌≡◌, ℕ, List, [], ◌∷◌, refl}
use Rattle.std.specs.Prelude.{replicate}
use Rattle.input_defs.specs.Plans.{Plan, Block, Stripe, Listed, Part, Layers, rank_by, plain_plan}
use Rattle.input_defs.specs.States.{assignment, states, first_ranks, count_parts}
use Rattle.plex_defs.proofs.Meshes.{strip}

assignments : (assignment 3 8 Block ≡ 0 ∷ 0 ∷ 0 ∷ 1 ∷ 1 ∷ 1 ∷ 2 ∷ 2 ∷ []) × (assignment 3 8 Stripe ≡ 0 ∷ 1 ∷ 2 ∷ 0 ∷ 1 ∷ 2 ∷ 0 ∷ 1 ∷ []) × (assignment 3 3 (Listed (2 ∷ 0 ∷ 1 ∷ [])) ≡ 2 ∷ 0 ∷ 1 ∷ [])
unfolding rank_by
assignments = (refl, refl, refl)

-- in stripes, one layer and one more, none, and in blocks
abbrev plan : Plan
plan = record plain_plan { ranks = 4; moves = (2, Part Stripe) ∷ (3, Layers 1) ∷ (4, Layers 1) ∷ (5, Layers 0) ∷ (6, Layers 2) ∷ (7, Part Block) ∷ [] }

abbrev stripes : List ℕ
stripes = 0 ∷ 1 ∷ 2 ∷ 3 ∷ 0 ∷ 1 ∷ 2 ∷ 3 ∷ []

abbrev blocks : List ℕ
blocks = 0 ∷ 0 ∷ 1 ∷ 1 ∷ 2 ∷ 2 ∷ 3 ∷ 3 ∷ []

steps_of_a_plan : states strip plan
    ≡ record { move = Part Stripe; ranks = stripes; layers = 0; steps = 1; parts = 1 }
    ∷ record { move = Layers 1; ranks = stripes; layers = 1; steps = 2; parts = 1 }
    ∷ record { move = Layers 1; ranks = stripes; layers = 2; steps = 3; parts = 1 }
    ∷ record { move = Layers 0; ranks = stripes; layers = 0; steps = 4; parts = 1 }
    ∷ record { move = Layers 2; ranks = stripes; layers = 2; steps = 5; parts = 1 }
    ∷ record { move = Part Block; ranks = blocks; layers = 0; steps = 6; parts = 2 } ∷ []
unfolding rank_by states
steps_of_a_plan = refl

first_part_of_a_plan : (first_ranks strip plan ≡ stripes) × (count_parts (states strip plan) ≡ 2) × (first_ranks strip plain_plan ≡ replicate 8 0)
unfolding rank_by states first_ranks
first_part_of_a_plan = (refl, refl, refl)
