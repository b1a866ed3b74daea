use Rattle.std.proofs.Common.{◌≡◌, ◌<◌, ℕ, List, ◌++◌, length, drop}
use Rattle.std.specs.Prelude.{flat_map}
use Rattle.std.specs.List.{All}
use Rattle.plex_defs.specs.Closure.{list_of}
use Rattle.plex_walk.proofs.stars.add_supports.Given as goal

abbrev pub invariant-loop-i : goal.invariant-loop-i
invariant-loop-i l =
    (l.star.items ++ flat_map (list_of l.s) (drop l.i l.initial.star.items) ≡ l.initial.star.items ++ flat_map (list_of l.s) (drop l.last l.initial.star.items))
    × ((rest : List ℕ) × (l.star.items ≡ l.initial.star.items ++ rest))
    × All (λ q. q < length l.s) l.star.items
