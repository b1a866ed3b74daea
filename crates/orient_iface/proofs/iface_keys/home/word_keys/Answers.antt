use Rattle.std.proofs.Common.{◌≡◌, ℕ, ◌^◌, ◌<◌, List, [], ◌∷◌, ◌++◌, length, get_or, Vec, Global, ap, ap₂, sym, subst, ◌∙◌, arith}
use Rattle.std.specs.List.{AllByRecursion}
use Rattle.plain_lists.specs.Lists.{picked}
use Rattle.plain_lists.specs.Vectors.{lists_of}
use Rattle.plain_lists.proofs.Each.{all_append}
use Rattle.rank_chart_laws.proofs.meeting_laws.Loops.{list_at, lists_pushed, made_below}
use Rattle.sf_ops.proofs.Words.{length-lists_of, lists_of-push}
use Rattle.orient_iface.proofs.iface_keys.home.word_keys.Goals as goal

pub picked-requires : goal.picked-requires
picked-requires c =
    let rank : ℕ = c.loop-rank.rank in
    let low : rank < length c.args.places.now = omega (arith, c.loop-rank-test.true) in
    let high : rank < length c.args.keys.now = omega (arith, low, c.requires.ranks, length-lists_of c.args.keys.now, length-lists_of c.args.places.now) in
    let seen : c.deref.result.now ≡ get_or (lists_of c.args.keys.now) rank [] = c.deref.ensures.value ∙ (ap (λ (v : Vec ℕ Global). v.items) c.index-keys-rank.is ∙ sym (list_at c.args.keys.now rank c.index-keys-rank.result high)) in
    let own : c.deref-in-loop-rank.result.now ≡ get_or (lists_of c.args.places.now) rank [] = c.deref-in-loop-rank.ensures.value ∙ (ap (λ (v : Vec ℕ Global). v.items) c.index-places-rank.is ∙ sym (list_at c.args.places.now rank c.index-places-rank.result low)) in
    subst (λ (l : List ℕ). AllByRecursion (λ p. p < length l) c.deref-in-loop-rank.result.now) (sym seen)
    (subst (AllByRecursion (λ p. p < length (get_or (lists_of c.args.keys.now) rank []))) (sym own) (c.requires.each rank))

pub loop-rank-preserved : goal.loop-rank-preserved
loop-rank-preserved c =
    let rank : ℕ = c.loop-rank.rank in
    let low : rank < length c.args.places.now = omega (arith, c.loop-rank-test.true) in
    let high : rank < length c.args.keys.now = omega (arith, low, c.requires.ranks, length-lists_of c.args.keys.now, length-lists_of c.args.places.now) in
    let seen : c.deref.result.now ≡ get_or (lists_of c.args.keys.now) rank [] = c.deref.ensures.value ∙ (ap (λ (v : Vec ℕ Global). v.items) c.index-keys-rank.is ∙ sym (list_at c.args.keys.now rank c.index-keys-rank.result high)) in
    let own : c.deref-in-loop-rank.result.now ≡ get_or (lists_of c.args.places.now) rank [] = c.deref-in-loop-rank.ensures.value ∙ (ap (λ (v : Vec ℕ Global). v.items) c.index-places-rank.is ∙ sym (list_at c.args.places.now rank c.index-places-rank.result low)) in
    let now : lists_of c.push.new.self.items ≡ lists_of c.loop-rank.words.items ++ c.in_ok-picked.field-0.items ∷ [] = ap (λ (vs : List (Vec ℕ Global)). lists_of vs) c.in_ok-push.ensures.items ∙ lists_of-push c.loop-rank.words.items c.in_ok-picked.field-0 in
    record {
      words = lists_pushed (λ r. picked (get_or (lists_of c.args.keys.now) r []) (get_or (lists_of c.args.places.now) r [])) rank c.loop-rank.words.items c.push.new.self.items c.in_ok-picked.field-0 c.loop-rank.invariant.words (c.in_ok-picked.ensures.values ∙ ap₂ picked seen own) c.in_ok-push.ensures.items;
      low = subst (AllByRecursion (λ own. (k : ℕ) → get_or own k 0 < 2 ^ 64)) (sym now) (all_append (λ own. (k : ℕ) → get_or own k 0 < 2 ^ 64) (lists_of c.loop-rank.words.items) (c.in_ok-picked.field-0.items ∷ []) c.loop-rank.invariant.low (c.in_ok-picked.ensures.low, tt));
    }

pub returns-clause-words : goal.returns-clause-words
returns-clause-words c =
    let n = length-lists_of c.args.places.now in
    made_below (λ r. picked (get_or (lists_of c.args.keys.now) r []) (get_or (lists_of c.args.places.now) r [])) c.loop-rank.rank (length (lists_of c.args.places.now)) (lists_of c.loop-rank.words.items) c.loop-rank.invariant.words (omega (arith, n))
