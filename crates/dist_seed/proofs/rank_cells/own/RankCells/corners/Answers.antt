use Rattle.std.proofs.Common.{length, ap, sym, ◌∙◌, arith}
use Rattle.dist_state.specs.scatter_state.Parts.{cell_at}
use Rattle.dist_state.proofs.scatter_state.Given.{length-cells_of, cells_of-at}
use Rattle.dist_seed.specs.rank_cells.Own.{Held}
use Rattle.dist_seed.proofs.rank_cells.own.RankCells.corners.Goals as goal

pub list-requires : goal.list-requires
list-requires c =
    let own = c.self.inside in
    let count = length-cells_of own.cells.items own.polys.items own.corners c.self.invariant.polys c.self.invariant.corners in
    let view = ap (λ (h : Held). length h.cells) c.self.view_is in
    omega (arith, count, view, c.requires, c.self.invariant.corners)

pub returns : goal.returns
returns c =
    let own = c.self.inside in
    c.list.ensures
    ∙ sym (ap (λ x. x.1.vertices) (cells_of-at own.cells.items own.polys.items own.corners c.self.invariant.polys c.self.invariant.corners c.args.i))
    ∙ ap (λ (h : Held). (cell_at h.cells c.args.i).1.vertices) c.self.view_is
