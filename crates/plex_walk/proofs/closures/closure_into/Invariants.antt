use Rattle.std.proofs.Common.{◌≡◌, ◌-◌, ◌≤◌, length, drop}
use Rattle.std.specs.List.{All}
use Rattle.walk_defs.specs.Cones.{levels_by_cones, closure_by_cones}
use Rattle.walk_defs.specs.Cones.{IsEntry}
use Rattle.plex_walk.proofs.closures.closure_into.Given as goal

abbrev pub invariant-loop-level : goal.invariant-loop-level
invariant-loop-level l =
    (levels_by_cones l.x (l.level-end - l.level) l.to.items (drop l.last l.to.items) ≡ closure_by_cones l.x l.p l.o)
    × (l.last ≤ length l.to.items)
    × All (IsEntry l.x) l.to.items
