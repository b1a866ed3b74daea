use Rattle.std.proofs.Common.{◌<◌, length, arith, rules}
use Rattle.local_points.specs.Points.{row_at}
use Rattle.interp_share.proofs.part_weights.Seen.{edge-low}
use Rattle.interp_share.proofs.part_weights.places.push_edges.Goals as goal

pub overflow_add-base : goal.overflow_add-base
overflow_add-base c =
    let within : c.loop-e.e < length (row_at c.args.local.now.edge_places c.args.i) = omega arith in
    let low = edge-low c.args.part.now.cells c.args.i c.requires.cell c.args.local.now c.requires.points.all c.loop-e.e within in
    search rules
