use Rattle.std.proofs.Common.{◌<◌, length, get_or, arith, ap, ◌∙◌}
use Rattle.sf_defs.specs.slots.Slots.{slot_counts}
use Rattle.sf_ops.proofs.slots.Listing.{counts-length, firsts-length, found-last, made-more, made-all}
use Rattle.sf_ops.proofs.slots.making.slot_counts.Goals as goal

pub bounds-firsts-rank : goal.bounds-firsts-rank
bounds-firsts-rank c = omega (arith, c.ranks-rank-end.ensures.ranks, ap length c.requires, firsts-length c.args.a.now)

pub at-count-requires : goal.at-count-requires
at-count-requires c = let last = found-last c.args.a.now c.loop-rank.rank c.args.firsts.now c.index-firsts-rank.result (omega (arith, c.ranks-rank-end.ensures.ranks)) c.requires c.index-firsts-rank.is in omega (arith, last.0, c.roots-behind.ensures)

pub loop-rank-preserved : goal.loop-rank-preserved
loop-rank-preserved c =
    let last = found-last c.args.a.now c.loop-rank.rank c.args.firsts.now c.index-firsts-rank.result (omega (arith, c.ranks-rank-end.ensures.ranks)) c.requires c.index-firsts-rank.is in
    let within : c.loop-rank.rank < length (slot_counts c.args.a.now) = omega (arith, c.ranks-rank-end.ensures.ranks, counts-length c.args.a.now) in
    c.in_ok-push.ensures.items ∙ made-more (slot_counts c.args.a.now) c.loop-rank.counts.items c.at-count.result 0 c.loop-rank.rank c.loop-rank.invariant within (c.at-count.ensures ∙ (ap (λ n. get_or c.index-firsts-rank.result n 0) c.roots-behind.ensures ∙ last.1))

pub returns-clause-counts : goal.returns-clause-counts
returns-clause-counts c = made-all (slot_counts c.args.a.now) c.loop-rank.counts.items c.loop-rank.rank c.loop-rank.invariant (omega (arith, c.ranks-rank-end.ensures.ranks, counts-length c.args.a.now))
