use Rattle.std.proofs.Common.{◌≡◌, ◌<◌, ◌≤◌, ℕ, length, drop}
use Rattle.std.specs.List.{All}
use Rattle.walk_defs.specs.Cones.{reaches}
use Rattle.plex_walk.proofs.Walks.{has, walks}
use Rattle.plex_walk.proofs.stars.star.Given as goal

abbrev pub invariant-loop-level : goal.invariant-loop-level
invariant-loop-level l =
    ((q : ℕ) → has (drop l.last l.star.items) q ≡ walks l.x l.level l.p q)
    × ((q : ℕ) → has l.star.items q ≡ reaches l.x l.level l.p q)
    × All (λ q. q < length l.x.points) l.star.items
    × (l.last ≤ length l.star.items)
