use Rattle.std.proofs.Common.{◌≡◌, ℕ, ◌<◌, [], length, get_or, Vec, Global, ap, sym, subst, ◌∙◌, arith}
use Rattle.std.specs.List.{AllByRecursion}
use Rattle.plain_lists.specs.Vectors.{lists_of}
use Rattle.rank_chart_laws.proofs.meeting_laws.Loops.{list_at, lists_pushed, made_below, shape_at, shape_count}
use Rattle.sf_ops.proofs.Words.{length-lists_of}
use Rattle.rank_chart_laws.specs.key_laws.Places.{part_keys, put}
use Rattle.rank_chart_laws.specs.key_laws.Words.{part, told_keys}
use Rattle.orient_iface.proofs.iface_keys.Bounds.{words-inside}
use Rattle.orient_iface.proofs.iface_keys.Rounds.{keys-long}
use Rattle.orient_iface.proofs.iface_keys.home.told_keys.Goals as goal

pub put-requires-clause-count : goal.put-requires-clause-count
put-requires-clause-count c =
    let rank : ℕ = c.loop-rank.rank in
    let here : rank < length c.args.shared.now.parts = omega (arith, c.loop-rank-test.true, c.ranks-rank-end.ensures.ranks) in
    let low : rank < length c.args.places.now = omega (arith, here, c.requires.words.ranks, length-lists_of c.args.places.now) in
    ap length (c.deref-in-loop-rank.ensures.value ∙ ap (λ (v : Vec ℕ Global). v.items) c.index-least-rank.is)
    ∙ (shape_at c.args.least.now c.args.places.now c.requires.shape rank c.index-least-rank.result c.index-places-rank.result low
    ∙ ap length (sym (c.deref.ensures.value ∙ ap (λ (v : Vec ℕ Global). v.items) c.index-places-rank.is)))

pub put-requires-clause-inside : goal.put-requires-clause-inside
put-requires-clause-inside c =
    let rank : ℕ = c.loop-rank.rank in
    let here : rank < length c.args.shared.now.parts = omega (arith, c.loop-rank-test.true, c.ranks-rank-end.ensures.ranks) in
    let low : rank < length c.args.places.now = omega (arith, here, c.requires.words.ranks, length-lists_of c.args.places.now) in
    let own : c.deref.result.now ≡ get_or (lists_of c.args.places.now) rank [] = c.deref.ensures.value ∙ (ap (λ (v : Vec ℕ Global). v.items) c.index-places-rank.is ∙ sym (list_at c.args.places.now rank c.index-places-rank.result low)) in
    subst (λ k. AllByRecursion (λ p. p < k) c.deref.result.now) (sym (ap length c.in_ok-own.ensures ∙ keys-long c.args.shared.now c.requires.laid_out rank here))
    (subst (AllByRecursion (λ p. p < length (part c.args.shared.now rank).sets)) (sym own) (words-inside c.args.shared.now c.requires.laid_out rank here (get_or (lists_of c.args.places.now) rank []) (c.requires.words.each rank here)))

pub loop-rank-preserved : goal.loop-rank-preserved
loop-rank-preserved c =
    let rank : ℕ = c.loop-rank.rank in
    let here : rank < length c.args.shared.now.parts = omega (arith, c.loop-rank-test.true, c.ranks-rank-end.ensures.ranks) in
    let low : rank < length c.args.places.now = omega (arith, here, c.requires.words.ranks, length-lists_of c.args.places.now) in
    let own : c.deref.result.now ≡ get_or (lists_of c.args.places.now) rank [] = c.deref.ensures.value ∙ (ap (λ (v : Vec ℕ Global). v.items) c.index-places-rank.is ∙ sym (list_at c.args.places.now rank c.index-places-rank.result low)) in
    let high : rank < length c.args.least.now = omega (arith, low, shape_count c.args.least.now c.args.places.now c.requires.shape) in
    let least : c.deref-in-loop-rank.result.now ≡ get_or (lists_of c.args.least.now) rank [] = c.deref-in-loop-rank.ensures.value ∙ (ap (λ (v : Vec ℕ Global). v.items) c.index-least-rank.is ∙ sym (list_at c.args.least.now rank c.index-least-rank.result high)) in
    let keys : c.in_ok-own.own.items ≡ part_keys (part c.args.shared.now rank) = c.in_ok-own.ensures in
    lists_pushed (λ r. put (part_keys (part c.args.shared.now r)) (get_or (lists_of c.args.places.now) r []) (get_or (lists_of c.args.least.now) r [])) rank c.loop-rank.keys.items c.push.new.self.items c.put.new.own c.loop-rank.invariant (c.put.ensures ∙ (λ i. put (keys i) (own i) (least i))) c.in_ok-push.ensures.items

pub returns : goal.returns
unfolding told_keys
returns c = made_below (λ r. put (part_keys (part c.args.shared.now r)) (get_or (lists_of c.args.places.now) r []) (get_or (lists_of c.args.least.now) r [])) c.loop-rank.rank (length c.args.shared.now.parts) (lists_of c.loop-rank.keys.items) c.loop-rank.invariant (omega (arith, c.ranks-rank-end.ensures.ranks, c.loop-rank-test.false, c.loop-rank.auto.rank-end))
