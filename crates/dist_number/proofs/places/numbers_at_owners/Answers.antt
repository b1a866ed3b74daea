use Rattle.std.proofs.Common.{arith, sym, ap, ◌∙◌}
use Rattle.std.proofs.lemmas.List.{take_all}
use Rattle.sf_ops.proofs.Conditions.{at_place}
use Rattle.plain_lists.specs.Vectors.{lists_of}
use Rattle.dist_number.specs.Places.{own_numbers, numbers_at_owners}
use Rattle.dist_number.proofs.Listed.{own_counts-at, length-numbers_at_owners, numbers_at_owners-at, one-more}
use Rattle.dist_number.proofs.places.numbers_at_owners.Goals as goal

pub own_numbers-requires : goal.own_numbers-requires
own_numbers-requires c =
    let place = at_place c.args.d.now.locals c.loop-rank.rank c.local.result.now c.local.ensures in
    let count = own_counts-at c.args.d.now c.loop-rank.rank c.local.result.now place.0 place.1 in
    let fits = c.requires.fits c.loop-rank.rank place.0 in
    omega (arith, count, fits, c.base.ensures)

pub loop-rank-preserved : goal.loop-rank-preserved
loop-rank-preserved c =
    let place = at_place c.args.d.now.locals c.loop-rank.rank c.local.result.now c.local.ensures in
    let count = length-numbers_at_owners c.args.d.now c.args.bases.now.bases in
    let own = numbers_at_owners-at c.args.d.now c.args.bases.now.bases c.loop-rank.rank c.local.result.now place.0 place.1 in
    ap lists_of c.in_ok-push.ensures.items
    ∙ one-more c.loop-rank.numbers.items c.in_ok-own_numbers.field-0 (numbers_at_owners c.args.d.now c.args.bases.now.bases) c.loop-rank.rank (omega (arith, place.0, count)) c.loop-rank.invariant
    (c.in_ok-own_numbers.ensures ∙ (ap (λ n. own_numbers c.loop-rank.rank n c.local.result.now.owners) c.base.ensures ∙ sym own))

pub returns : goal.returns
returns c =
    let count = length-numbers_at_owners c.args.d.now c.args.bases.now.bases in
    c.loop-rank.invariant ∙ take_all _ (numbers_at_owners c.args.d.now c.args.bases.now.bases) (omega (arith, count, c.ranks-rank-end.ensures.ranks))
