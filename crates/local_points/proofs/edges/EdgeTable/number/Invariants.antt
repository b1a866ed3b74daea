use Rattle.std.proofs.Common.{◌≡◌, map, take}
use Rattle.mesh_defs.specs.Diagram.{firsts}
use Rattle.local_points.specs.Points.{places_in}
use Rattle.local_points.specs.Stored.{edge_sight_of}
use Rattle.local_points.proofs.edges.EdgeTable.number.Given as goal

abbrev pub invariant-loop-edge : goal.invariant-loop-edge
invariant-loop-edge l = record {
  edges : l.self ≡ firsts (map edge_sight_of (take l.edge-index l.seen));
  places : l.places.items ≡ places_in (firsts (map edge_sight_of (take l.edge-index l.seen))) (map edge_sight_of (take l.edge-index l.seen));
}
