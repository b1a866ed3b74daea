use Rattle.std.proofs.Common.{◌≡◌, ◌++◌, take}
use Rattle.local_points.specs.Points.{row_at}
use Rattle.rank_laws.specs.cell_laws.Cells.{places_from}
use Rattle.interp_share.proofs.part_weights.places.push_edges.Given as goal

-- the edges up to here
abbrev pub invariant-loop-e : goal.invariant-loop-e
invariant-loop-e l = l.places.items ≡ l.initial.places.items ++ places_from l.base (take l.e (row_at l.local.edge_places l.i))
