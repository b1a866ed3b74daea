-- Moves of the points of a forest in which every point is a root.
use Rattle.std.specs.Prelude.{◌≡◌, ℕ, ◌<◌, List, length}
use Rattle.std.specs.List.{AllByRecursion}
use Rattle.sf_defs.specs.declared.Leaf.{Leaf}
use Rattle.sf_defs.specs.Forest.{Forest, leaves_on, roots_on}
use Rattle.rank_chart_laws.specs.moved_laws.Moves.{moves_on}

-- each rank has a move for each of its points, to one of its places, and its leaves are at points, on points
pub record FitMoves (moves : List (List ℕ)) (f : Forest) : Type 0 where
  pub ranks : length moves ≡ length f.roots
  pub as_many : (r : ℕ) → r < length f.roots → length (moves_on moves r) ≡ roots_on f r
  pub low : (r : ℕ) → r < length f.roots → AllByRecursion (λ j. j < length (moves_on moves r)) (moves_on moves r)
  pub locals : (r : ℕ) → r < length f.roots → AllByRecursion (λ (l : Leaf). l.local < roots_on f r) (leaves_on f r)
  pub on : (r : ℕ) → r < length f.roots → AllByRecursion (λ (l : Leaf). (l.rank < length moves) × (l.index < length (moves_on moves l.rank))) (leaves_on f r)
