use Rattle.std.proofs.Common.{◌≡◌, ◌^◌, ◌<◌, [], ◌∷◌, get_or, arith, sym, ap, subst, ⊎_elim, ◌∙◌}
use Rattle.std.proofs.lemmas.Bool.{cases_lt}
use Rattle.std.proofs.lemmas.List.{take_all}
use Rattle.sf_ops.proofs.Conditions.{at_place}
use Rattle.plain_lists.specs.Vectors.{lists_of}
use Rattle.dist_number.specs.Asked.{own_counts, sums_of, sum_of}
use Rattle.dist_number.proofs.Listed.{length-own_counts, own_counts-at, length-sums_of, sums_of-at, one-more, all-by_place}
use Rattle.dist_number.proofs.counts.sums_of.Goals as goal

pub loop-rank-preserved : goal.loop-rank-preserved
loop-rank-preserved c =
    let place = at_place c.args.d.now.locals c.loop-rank.rank c.local.result.now c.local.ensures in
    let counts = length-own_counts c.args.d.now in
    let asks = length-sums_of (own_counts c.args.d.now) in
    let count = own_counts-at c.args.d.now c.loop-rank.rank c.local.result.now place.0 place.1 in
    let one = sums_of-at (own_counts c.args.d.now) c.loop-rank.rank (omega (arith, place.0, counts)) in
    record {
      asks = ap lists_of c.in_ok-push.ensures.items
          ∙ one-more c.loop-rank.asks.items c.in_ok-vec.field-0 (sums_of (own_counts c.args.d.now)) c.loop-rank.rank (omega (arith, place.0, counts, asks)) c.loop-rank.invariant.asks
          (c.in_ok-vec.ensures.items ∙ (ap (λ n. sum_of n ∷ []) (c.own_count.ensures.count ∙ sym count) ∙ sym one));
      small = λ k low. ⊎_elim
          (λ lt. c.loop-rank.invariant.small k lt)
          (λ ge. let last : c.loop-rank.rank ≡ k = omega (arith, ge, low) in
          subst (λ j. get_or (own_counts c.args.d.now) j 0 < 2 ^ 32) last (omega (arith, count, c.own_count.ensures.count, c.own_count.ensures.small)))
          (cases_lt k c.loop-rank.rank);
    }

pub returns : goal.returns
returns c =
    let counts = length-own_counts c.args.d.now in
    let asks = length-sums_of (own_counts c.args.d.now) in
    record {
      asks = c.loop-rank.invariant.asks ∙ take_all _ (sums_of (own_counts c.args.d.now)) (omega (arith, counts, asks, c.ranks-rank-end.ensures.ranks));
      small = all-by_place (λ n. n < 2 ^ 32) (own_counts c.args.d.now) (λ k low. c.loop-rank.invariant.small k (omega (arith, low, counts, c.ranks-rank-end.ensures.ranks)));
    }
