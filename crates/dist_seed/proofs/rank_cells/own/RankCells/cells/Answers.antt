use Rattle.std.proofs.Common.{map, ap, sym, ◌∙◌}
use Rattle.dist_state.specs.scatter_state.Parts.{number_of}
use Rattle.dist_state.proofs.scatter_state.Given.{numbers-cells_of}
use Rattle.dist_seed.specs.rank_cells.Own.{Held}
use Rattle.dist_seed.proofs.rank_cells.own.RankCells.cells.Goals as goal

pub returns : goal.returns
returns c =
    let own = c.self.inside in
    c.deref.ensures.value ∙ sym (numbers-cells_of own.cells.items own.polys.items own.corners c.self.invariant.polys c.self.invariant.corners) ∙ ap (λ (h : Held). map number_of h.cells) c.self.view_is
