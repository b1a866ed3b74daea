use Rattle.std.proofs.Common.{length, ap, arith}
use Rattle.local_points.specs.Points.{Local}
use Rattle.orient_iface.proofs.iface_keys.places.word_places.Goals as goal

pub overflow_add-first : goal.overflow_add-first
overflow_add-first c =
    let all = c.requires.laid_out.points c.args.rank c.requires.rank in
    omega (arith, all, c.first_face-first.ensures, c.faces-faces.ensures.count, ap (λ (l : Local). length l.faces) c.local.ensures)
