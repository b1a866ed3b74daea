use Rattle.std.proofs.Common.{map, ap, sym, subst, ◌∙◌}
use Rattle.rank_defs.specs.Spread.{ScatterPart}
use Rattle.dist_state.specs.scatter_state.Parts.{number_of, IsRightPart}
use Rattle.dist_state.proofs.scatter_state.Given.{numbers-cells_of, right-part}
use Rattle.dist_state.proofs.scatter_state.rank_part.RankPart.cells.Goals as goal

pub returns-clause-cells : goal.returns-clause-cells
returns-clause-cells c =
    let lists = c.self.inside.lists in
    c.deref.ensures.value ∙ sym (numbers-cells_of lists.cells.items lists.polys.items lists.corners c.self.invariant.polys c.self.invariant.corners) ∙ ap (λ (p : ScatterPart). map number_of p.cells) c.self.view_is

pub returns-clause-right : goal.returns-clause-right
returns-clause-right c = subst IsRightPart c.self.view_is (right-part c.self.inside.lists c.self.invariant)
