use Rattle.std.proofs.Common.{length, ap, arith}
use Rattle.dist_state.proofs.scatter_state.Given.{length-cells_of}
use Rattle.dist_seed.specs.rank_cells.Own.{Held}
use Rattle.dist_seed.proofs.rank_cells.own.RankCells.len.Goals as goal

pub returns : goal.returns
returns c =
    let own = c.self.inside in
    let count = length-cells_of own.cells.items own.polys.items own.corners c.self.invariant.polys c.self.invariant.corners in
    let view = ap (λ (h : Held). length h.cells) c.self.view_is in
    omega (arith, count, view, c.len.ensures, own.cells.ok.0)
