use Rattle.std.proofs.Common.{length, ap, arith}
use Rattle.std.proofs.lemmas.List.{length-map}
use Rattle.dist_state.specs.scatter_state.Parts.{number_of}
use Rattle.rank_chart_laws.specs.key_laws.Words.{part}
use Rattle.orient_iface.proofs.iface_keys.places.first_face.Goals as goal

pub overflow_cast-result : goal.overflow_cast-result
overflow_cast-result c =
    let all = c.requires.laid_out.points c.args.rank c.requires.rank in
    omega (arith, all, ap length c.cells.ensures, length-map (part c.args.shared.now c.args.rank).cells number_of)

pub overflow_cast-result-2 : goal.overflow_cast-result-2
overflow_cast-result-2 c =
    let all = c.requires.laid_out.points c.args.rank c.requires.rank in
    omega (arith, all, ap length c.vertices.ensures)

pub overflow_add-result : goal.overflow_add-result
overflow_add-result c =
    let all = c.requires.laid_out.points c.args.rank c.requires.rank in
    omega (arith, all, ap length c.cells.ensures, ap length c.vertices.ensures, length-map (part c.args.shared.now c.args.rank).cells number_of)
