use Rattle.std.proofs.Common.{◌≡◌, ℕ, ◌<◌, [], length, get_or, replicate, Vec, Global, ap, sym, subst, ◌∙◌, arith}
use Rattle.std.specs.List.{AllByRecursion}
use Rattle.std.proofs.lemmas.List.{length-replicate}
use Rattle.plain_lists.specs.Lists.{below}
use Rattle.plain_lists.specs.Vectors.{lists_of}
use Rattle.plain_lists.proofs.Below.{length-below}
use Rattle.rank_chart_laws.proofs.meeting_laws.Loops.{list_at, lists_pushed, made_below}
use Rattle.sf_ops.proofs.Words.{length-lists_of}
use Rattle.rank_chart_laws.specs.key_laws.Places.{put}
use Rattle.rank_chart_laws.specs.key_laws.Words.{part, numbered, word_numbers}
use Rattle.orient_iface.proofs.iface_keys.Bounds.{words-inside}
use Rattle.orient_iface.proofs.iface_keys.leaves.word_numbers.Goals as goal

pub put-requires-clause-count : goal.put-requires-clause-count
put-requires-clause-count c =
    let long : c.len.result ≡ length c.index-places-rank.result.items = c.len.ensures ∙ c.index-places-rank.result.ok.0 in
    ap length (c.deref-in-loop-rank.ensures.value ∙ c.in_ok-below.ensures) ∙ (length-below c.len.result ∙ (long ∙ ap length (sym c.deref.ensures.value)))

pub put-requires-clause-inside : goal.put-requires-clause-inside
put-requires-clause-inside c =
    let rank : ℕ = c.loop-rank.rank in
    let here : rank < length c.args.shared.now.parts = omega (arith, c.loop-rank-test.true, c.ranks-rank-end.ensures.ranks) in
    let low : rank < length c.args.places.now = omega (arith, here, c.requires.words.ranks, length-lists_of c.args.places.now) in
    let own : c.deref.result.now ≡ get_or (lists_of c.args.places.now) rank [] = c.deref.ensures.value ∙ (ap (λ (v : Vec ℕ Global). v.items) c.index-places-rank.is ∙ sym (list_at c.args.places.now rank c.index-places-rank.result low)) in
    let made : c.in_ok-at_places.at_places.items ≡ replicate c.points.result 0 = c.in_ok-at_places.ensures.items_if_clones_equal (λ y h. h) in
    subst (λ k. AllByRecursion (λ p. p < k) c.deref.result.now) (sym (ap length made ∙ (length-replicate {A = ℕ} c.points.result 0 ∙ c.points.ensures)))
    (subst (AllByRecursion (λ p. p < length (part c.args.shared.now rank).sets)) (sym own) (words-inside c.args.shared.now c.requires.laid_out rank here (get_or (lists_of c.args.places.now) rank []) (c.requires.words.each rank here)))

pub loop-rank-preserved : goal.loop-rank-preserved
loop-rank-preserved c =
    let rank : ℕ = c.loop-rank.rank in
    let here : rank < length c.args.shared.now.parts = omega (arith, c.loop-rank-test.true, c.ranks-rank-end.ensures.ranks) in
    let low : rank < length c.args.places.now = omega (arith, here, c.requires.words.ranks, length-lists_of c.args.places.now) in
    let own : c.deref.result.now ≡ get_or (lists_of c.args.places.now) rank [] = c.deref.ensures.value ∙ (ap (λ (v : Vec ℕ Global). v.items) c.index-places-rank.is ∙ sym (list_at c.args.places.now rank c.index-places-rank.result low)) in
    let made : c.in_ok-at_places.at_places.items ≡ replicate c.points.result 0 = c.in_ok-at_places.ensures.items_if_clones_equal (λ y h. h) in
    let long : c.len.result ≡ length c.index-places-rank.result.items = c.len.ensures ∙ c.index-places-rank.result.ok.0 in
    let zeros : c.in_ok-at_places.at_places.items ≡ replicate (length (part c.args.shared.now rank).sets) 0 = made ∙ ap (λ n. replicate n 0) c.points.ensures in
    let listed : length c.index-places-rank.result.items ≡ length (get_or (lists_of c.args.places.now) rank []) = ap length (sym c.deref.ensures.value ∙ own) in
    let numbers : c.deref-in-loop-rank.result.now ≡ below (length (get_or (lists_of c.args.places.now) rank [])) = c.deref-in-loop-rank.ensures.value ∙ (c.in_ok-below.ensures ∙ ap below (long ∙ listed)) in
    lists_pushed (numbered c.args.shared.now (lists_of c.args.places.now)) rank c.loop-rank.numbers.items c.push.new.self.items c.put.new.own c.loop-rank.invariant (c.put.ensures ∙ (λ i. put (zeros i) (own i) (numbers i))) c.in_ok-push.ensures.items

pub returns : goal.returns
unfolding word_numbers
returns c = made_below (numbered c.args.shared.now (lists_of c.args.places.now)) c.loop-rank.rank (length c.args.shared.now.parts) (lists_of c.loop-rank.numbers.items) c.loop-rank.invariant (omega (arith, c.ranks-rank-end.ensures.ranks, c.loop-rank-test.false, c.loop-rank.auto.rank-end))
