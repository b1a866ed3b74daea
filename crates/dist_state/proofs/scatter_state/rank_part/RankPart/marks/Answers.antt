use Rattle.std.proofs.Common.{length, ap, sym, ◌∙◌, arith}
use Rattle.rank_defs.specs.Spread.{ScatterPart}
use Rattle.dist_state.proofs.scatter_state.Given.{length-marks_of}
use Rattle.dist_state.proofs.scatter_state.rank_part.RankPart.marks.Goals as goal

pub returns : goal.returns
returns c =
    let lists = c.self.inside.lists in
    let count = length-marks_of lists.marks.items lists.mark_vertices c.self.invariant.mark_vertices in
    let view = ap (λ (p : ScatterPart). length p.marks) c.self.view_is in
    omega (arith, count, view, c.len.ensures, lists.marks.ok.0)
