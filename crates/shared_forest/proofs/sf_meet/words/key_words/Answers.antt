use Rattle.std.proofs.Common.{◌≡◌, ℕ, List, ◌<◌, length, map, get_or, ap, ◌∙◌, subst, arith}
use Rattle.std.specs.List.{AllByRecursion}
use Rattle.plain_lists.specs.Vectors.{lists_of}
use Rattle.shared_forest.proofs.sf_meet.Ranks.{made-next, all-next}
use Rattle.shared_forest.proofs.sf_meet.words.key_words.Goals as goal

pub loop-own-preserved : goal.loop-own-preserved
loop-own-preserved c =
    let item : c.deref.result.now ≡ c.own-item.result.items = c.deref.ensures.value in
    let low : c.loop-own.own-index < length c.args.keys.now = omega arith in
    let own : c.in_ok-own_words.field-0.items ≡ map (λ (key : List ℕ). get_or key c.args.which 0) c.own-item.result.items = c.in_ok-own_words.ensures.words ∙ ap (map (λ (key : List ℕ). get_or key c.args.which 0)) item in
    record {
      words = ap lists_of c.in_ok-push.ensures.items ∙ made-next (map (λ (key : List ℕ). get_or key c.args.which 0)) c.args.keys.now c.loop-own.own-index c.own-item.result c.loop-own.words.items c.in_ok-own_words.field-0 low c.own-item.is c.loop-own.invariant.words own;
      pairs = all-next (AllByRecursion (λ (key : List ℕ). length key ≡ 2)) c.args.keys.now c.loop-own.own-index c.own-item.result low c.own-item.is c.loop-own.invariant.pairs (subst (AllByRecursion (λ (key : List ℕ). length key ≡ 2)) item c.in_ok-own_words.ensures.pairs);
    }
