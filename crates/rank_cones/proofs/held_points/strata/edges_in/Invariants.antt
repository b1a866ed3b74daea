use Rattle.std.proofs.Common.{◌≡◌, map, take}
use Rattle.rank_cones.specs.held_points.Held.{edge_on, given_point}
use Rattle.rank_cones.specs.held_points.Stored.{edge_of}
use Rattle.rank_cones.proofs.held_points.strata.edges_in.Given as goal

abbrev pub invariant-loop-place : goal.invariant-loop-place
invariant-loop-place l = map edge_of l.edges.items ≡ map (given_point edge_on l.keys l.lists) (take l.place-index l.order)
