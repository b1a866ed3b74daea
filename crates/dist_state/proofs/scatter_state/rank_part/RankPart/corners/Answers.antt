use Rattle.std.proofs.Common.{length, ap, sym, ◌∙◌, arith}
use Rattle.rank_defs.specs.Spread.{ScatterPart}
use Rattle.dist_state.specs.scatter_state.Parts.{cell_at}
use Rattle.dist_state.proofs.scatter_state.Given.{length-cells_of, cells_of-at}
use Rattle.dist_state.proofs.scatter_state.rank_part.RankPart.corners.Goals as goal

pub list-requires : goal.list-requires
list-requires c =
    let lists = c.self.inside.lists in
    let count = length-cells_of lists.cells.items lists.polys.items lists.corners c.self.invariant.polys c.self.invariant.corners in
    let view = ap (λ (p : ScatterPart). length p.cells) c.self.view_is in
    omega (arith, count, view, c.requires, c.self.invariant.corners)

pub returns : goal.returns
returns c =
    let lists = c.self.inside.lists in
    c.list.ensures
    ∙ sym (ap (λ x. x.1.vertices) (cells_of-at lists.cells.items lists.polys.items lists.corners c.self.invariant.polys c.self.invariant.corners c.args.i))
    ∙ ap (λ (p : ScatterPart). (cell_at p.cells c.args.i).1.vertices) c.self.view_is
