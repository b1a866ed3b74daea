use Rattle.std.proofs.Common.{◌≡◌, ◌+◌, [], ◌∷◌, length, ap, ◌∙◌, arith}
use Rattle.std.proofs.lemmas.List.{length-append}
use Rattle.sf_ops.proofs.Words.{length-lists_of}
use Rattle.rank_chart_laws.specs.key_laws.Words.{AreWordPlaces}
use Rattle.orient_iface.proofs.iface_keys.Steps.{next-list}
use Rattle.orient_iface.proofs.iface_keys.places.all_words.Goals as goal

pub loop-rank-preserved : goal.loop-rank-preserved
loop-rank-preserved c = record {
  ranks = ap length c.in_ok-push.ensures.items ∙ (length-append c.loop-rank.places.items (c.in_ok-word_places.field-0 ∷ []) ∙ ap (λ k. k + 1) c.loop-rank.invariant.ranks);
  each = next-list (AreWordPlaces c.args.shared.now) c.loop-rank.places.items c.in_ok-word_places.field-0 c.push.new.self.items c.loop-rank.rank c.in_ok-push.ensures.items c.loop-rank.invariant.ranks c.loop-rank.invariant.each c.in_ok-word_places.ensures;
}

pub returns : goal.returns
returns c =
    let end : c.loop-rank.rank ≡ length c.args.shared.now.parts = omega (arith, c.ranks-rank-end.ensures.ranks, c.loop-rank-test.false, c.loop-rank.auto.rank-end) in
    record {
      ranks = length-lists_of c.loop-rank.places.items ∙ (c.loop-rank.invariant.ranks ∙ end);
      each = λ r low. c.loop-rank.invariant.each r (omega (arith, low, end));
    }
