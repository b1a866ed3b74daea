use Rattle.std.proofs.Common.{◌<◌, length, arith, rules}
use Rattle.local_points.specs.Points.{row_at}
use Rattle.interp_share.proofs.part_weights.Seen.{face-low}
use Rattle.interp_share.proofs.part_weights.places.push_faces.Goals as goal

pub overflow_add-base : goal.overflow_add-base
overflow_add-base c =
    let within : c.loop-f.f < length (row_at c.args.local.now.face_places c.args.i) = omega arith in
    let low = face-low c.args.part.now.cells c.args.i c.requires.cell c.args.local.now c.requires.points.all c.loop-f.f within in
    search rules
