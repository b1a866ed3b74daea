use Rattle.std.proofs.Common.{◌<◌, length, subst, arith}
use Rattle.dist_state.specs.shared_state.Points.{shared_at}
use Rattle.rank_cones.specs.rank_drawings.Told.{IsDimOf}
use Rattle.rank_cones.proofs.rank_drawings.AllRanks.{dim-found, has-cell}
use Rattle.rank_cones.proofs.rank_drawings.dimension.dim_of_mesh.Goals as goal

pub returns-in-Some : goal.returns-in-Some
returns-in-Some c = λ m dofs a n is.
    let low : c.loop-rank.rank < length c.args.shared.now.parts = omega (arith, c.ranks-rank-end.ensures.ranks, c.loop-rank-test.true) in
    dim-found c.args.shared.now m dofs a n is c.loop-rank.rank c.in-Some.found low (subst (IsDimOf (shared_at c.args.shared.now.parts c.loop-rank.rank).cells) c.in-Some.is c.dim_on.ensures)

pub returns : goal.returns
returns c = λ m dofs a n is. absurd (has-cell c.args.shared.now m dofs a n is (λ r low. c.loop-rank.invariant r (omega (arith, low, c.ranks-rank-end.ensures.ranks, c.loop-rank-test.false))))
