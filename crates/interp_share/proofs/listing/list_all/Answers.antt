use Rattle.std.proofs.Common.{◌<◌, length, ap, arith}
use Rattle.interp_share.proofs.Ranked.{part-fit}
use Rattle.interp_share.proofs.listing.list_all.Goals as goal

pub each_rank-requires-clause-accepts : goal.each_rank-requires-clause-accepts
each_rank-requires-clause-accepts g c κs within = λ rank d low.
    let s = c.args.scatter.now in
    let (m, dofs, a, n, is) = c.requires.some in
    let there : rank < length s.parts = omega (arith, low, ap length c.deref_mut.ensures.value, c.in_ok-sets.ensures, c.ranks.ensures.ranks) in
    (there, c.requires.seen, part-fit s m dofs a n is rank there)
