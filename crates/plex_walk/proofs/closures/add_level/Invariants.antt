use Rattle.std.proofs.Common.{◌≡◌, List, ◌++◌, drop}
use Rattle.std.specs.Prelude.{flat_map}
use Rattle.std.specs.List.{All}
use Rattle.mesh_defs.specs.declared.ConeEntry.{ConeEntry}
use Rattle.walk_defs.specs.Cones.{facets_by_cone}
use Rattle.walk_defs.specs.Cones.{IsEntry}
use Rattle.plex_walk.specs.Entries.{added}
use Rattle.plex_walk.proofs.closures.add_level.Given as goal

abbrev pub invariant-loop-i : goal.invariant-loop-i
invariant-loop-i l =
    (added l.to.items (flat_map (facets_by_cone l.x) (drop l.i l.initial.to.items)) ≡ added l.initial.to.items (flat_map (facets_by_cone l.x) (drop l.last l.initial.to.items)))
    × ((rest : List ConeEntry) × (l.to.items ≡ l.initial.to.items ++ rest))
    × All (IsEntry l.x) l.to.items
