use Rattle.std.proofs.Common.{◌<◌, [], List, ℕ, length, arith, sym, ◌∙◌}
use Rattle.sf_defs.specs.slots.Slots.{first_slots}
use Rattle.sf_ops.proofs.slots.Listing.{firsts-length, firsts-at, made-more, made-all}
use Rattle.sf_ops.proofs.slots.making.first_slots.Goals as goal

pub loop-rank-preserved : goal.loop-rank-preserved
loop-rank-preserved c =
    let made : List (List ℕ) = first_slots c.args.a.now in
    let within : c.loop-rank.rank < length made = omega (arith, firsts-length c.args.a.now, c.ranks-rank-end.ensures.ranks) in
    c.in_ok-push.ensures.items ∙ made-more made c.loop-rank.firsts.items c.in_ok-first_slots_on.field-0 [] c.loop-rank.rank c.loop-rank.invariant within (c.in_ok-first_slots_on.ensures ∙ sym (firsts-at c.args.a.now c.loop-rank.rank (omega (arith, c.ranks-rank-end.ensures.ranks))))

pub returns : goal.returns
returns c = made-all (first_slots c.args.a.now) c.loop-rank.firsts.items c.loop-rank.rank c.loop-rank.invariant (omega (arith, firsts-length c.args.a.now, c.ranks-rank-end.ensures.ranks))
