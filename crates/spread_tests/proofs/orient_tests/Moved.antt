-- Lists after their entries moved.
use Rattle.std.proofs.Common.{◌≡◌, ℕ, ◌==◌, List, length, get_or, ◌∙◌}
use Rattle.std.specs.List.{position_or_len}
use Rattle.std.proofs.lemmas.List.{length-map}
use Rattle.plain_lists.specs.Lists.{below}
use Rattle.plain_lists.proofs.Below.{length-below}
use Rattle.rank_chart_laws.specs.moved_laws.Moves.{moved_list}

-- there is an entry for each move
pub length-moved : {X : Type 0} (none : X) (moves : List ℕ) (xs : List X) → length (moved_list none moves xs) ≡ length moves
unfolding moved_list
length-moved none moves xs = length-map (below (length moves)) (λ j. get_or xs (position_or_len (λ k. k == j) moves) none) ∙ length-below (length moves)
