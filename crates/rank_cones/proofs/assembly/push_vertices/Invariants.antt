use Rattle.std.proofs.Common.{◌≡◌, ◌++◌, map}
use Rattle.plain_lists.specs.Lists.{below}
use Rattle.rank_laws.specs.diagram_laws.Strata.{bare_cover}
use Rattle.rank_cones.proofs.assembly.push_vertices.Given as goal

abbrev pub invariant-loop-vertex : goal.invariant-loop-vertex
invariant-loop-vertex l = l.plex ≡ record l.initial.plex { points = l.initial.plex.points ++ map (λ v. bare_cover) (below l._vertex) }
