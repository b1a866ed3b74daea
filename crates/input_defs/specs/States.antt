-- The steps of a plan on a mesh: which rank has which cell, and how many layers of overlap there are.
use Rattle.std.specs.Prelude.{ℕ, ◌+◌, List, [], ◌∷◌, length, map, get_or}
use Rattle.plain_lists.specs.Lists.{below}
use Rattle.mesh_defs.specs.Mesh.{Mesh}
use Rattle.input_defs.specs.Plans.{Spread, Move, Part, Layers, Plan, rank_by, layers_with}

-- What stands after a step: the rank of each cell and the layers of overlap, and how many steps and how many parts there
-- were up to here, this one among them.
pub record State : Type 0 where
  pub move : Move
  pub ranks : List ℕ
  pub layers : ℕ
  pub steps : ℕ
  pub parts : ℕ

-- the rank of each of so many cells
abbrev pub assignment : ℕ → ℕ → Spread → List ℕ
assignment ranks cells spread = map (λ c. rank_by ranks spread c cells) (below cells)

-- the state after one more step, on so many ranks and cells
abbrev pub after_move : ℕ → ℕ → State → Move → State
after_move ranks cells s (Part spread) = record { move = Part spread; ranks = assignment ranks cells spread; layers = 0; steps = s.steps + 1; parts = s.parts + 1 }
after_move ranks cells s (Layers k) = record { move = Layers k; ranks = s.ranks; layers = layers_with s.layers (Layers k); steps = s.steps + 1; parts = s.parts }

abbrev pub states_after : ℕ → ℕ → State → List Move → List State
states_after ranks cells s [] = []
states_after ranks cells s (move ∷ moves) = after_move ranks cells s move ∷ states_after ranks cells (after_move ranks cells s move) moves

-- before the first step
abbrev pub before_any_step : State
before_any_step = record { move = Layers 0; ranks = []; layers = 0; steps = 0; parts = 0 }

-- the states of all steps of a plan; the first of them is a part
unfoldable pub states : Mesh → Plan → List State
states m plan = states_after plan.ranks (length m.cells) before_any_step (map (λ (move : ℕ × Move). move.1) plan.moves)

-- the rank of each cell under the plan's first part
unfoldable pub first_ranks : Mesh → Plan → List ℕ
first_ranks m plan = (get_or (states m plan) 0 before_any_step).ranks

-- how many parts the plan has
abbrev pub count_parts : List State → ℕ
count_parts [] = 0
count_parts (s ∷ []) = s.parts
count_parts (s ∷ t ∷ states) = count_parts (t ∷ states)
