use Rattle.std.proofs.Common.{◌≡◌, map}
use Rattle.std.specs.List.{All}
use Rattle.plain_lists.specs.Lists.{below}
use Rattle.walk_defs.specs.Cones.{facet_by_cone}
use Rattle.walk_defs.specs.Cones.{IsEntry}
use Rattle.plex_walk.specs.Entries.{added}
use Rattle.plex_walk.proofs.closures.add_facets.Given as goal

abbrev pub invariant-loop-k : goal.invariant-loop-k
invariant-loop-k l = (l.to.items ≡ added l.initial.to.items (map (facet_by_cone l.x l.e) (below l.k))) × All (IsEntry l.x) l.to.items
