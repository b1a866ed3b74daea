use Rattle.std.proofs.Common.{◌≡◌, ◌<◌, ◌+◌, [], ℕ, List, length, map, get_or, arith, ap, sym, subst, ◌∙◌}
use Rattle.plain_lists.specs.Vectors.{lists_of}
use Rattle.plain_lists.proofs.Each.{all_weaker}
use Rattle.sf_defs.specs.declared.Leaf.{Leaf}
use Rattle.sf_defs.specs.declared.Op.TheVariants.{Sum}
use Rattle.sf_defs.specs.Forest.{leaves_on}
use Rattle.sf_ops.specs.Asked.{asks_of, words_of, CoverLeaves, MayAsk}
use Rattle.sf_ops.proofs.Words.{length-lists_of}
use Rattle.sf_ops.specs.slots.Ones.{AreOnes}
use Rattle.sf_ops.proofs.slots.Draws.{zeros-shape, ones-from, ones-may, draws}
use Rattle.sf_ops.proofs.slots.drawing.multi.Goals as goal

pub fetch_and_op-requires-clause-roots : goal.fetch_and_op-requires-clause-roots
fetch_and_op-requires-clause-roots g c = ap (λ vs. map length (lists_of vs)) c.deref_mut.ensures.value ∙ (ap (map length) c.in_ok-drawn.ensures.zeros ∙ zeros-shape c.args.a.now.roots)

pub fetch_and_op-requires-clause-leaves : goal.fetch_and_op-requires-clause-leaves
fetch_and_op-requires-clause-leaves g c = subst (λ vs. CoverLeaves c.args.a.now (lists_of vs)) (sym c.deref.ensures.value) record {
  ranks = length-lists_of c.in_ok-ones.ones.items ∙ c.in_ok-ones.ensures.ranks;
  places = λ rank h. all_weaker (λ (l : Leaf). (l.local < length (get_or (lists_of c.in_ok-ones.ones.items) rank [])) × (get_or (get_or (lists_of c.in_ok-ones.ones.items) rank []) l.local 0 ≡ 1)) (λ (l : Leaf). l.local < length (get_or (lists_of c.in_ok-ones.ones.items) rank [])) (λ l p. p.0) (leaves_on c.args.a.now rank) (c.in_ok-ones.ensures.ones rank h);
}

pub fetch_and_op-requires-clause-asks : goal.fetch_and_op-requires-clause-asks
fetch_and_op-requires-clause-asks g c =
    let values : List (List ℕ) = lists_of c.in_ok-ones.ones.items in
    let ones = ones-from values 0 c.args.a.now.leaves (λ k h. subst (λ n. AreOnes (get_or values n []) (leaves_on c.args.a.now k)) (let e : k ≡ 0 + k = omega arith in e) (c.in_ok-ones.ensures.ones k (omega (arith, c.in_ok-drawn.ensures.for_ranks.ranks)))) in
    subst (λ vs. MayAsk c.args.a.now Sum (lists_of vs) (lists_of c.deref_mut.result.now)) (sym c.deref.ensures.value)
    (subst (MayAsk c.args.a.now Sum values) (sym (ap (λ vs. lists_of vs) c.deref_mut.ensures.value ∙ c.in_ok-drawn.ensures.zeros)) (ones-may c.args.a.now values c.in_ok-drawn.ensures.for_ranks ones))

pub slots_drawn-requires : goal.slots_drawn-requires
slots_drawn-requires g c =
    let values : List (List ℕ) = lists_of c.in_ok-ones.ones.items in
    let ones = ones-from values 0 c.args.a.now.leaves (λ k h. subst (λ n. AreOnes (get_or values n []) (leaves_on c.args.a.now k)) (let e : k ≡ 0 + k = omega arith in e) (c.in_ok-ones.ensures.ones k (omega (arith, c.in_ok-drawn.ensures.for_ranks.ranks)))) in
    draws c.in_ok-round.round c.args.a.now values c.in_ok-round.ensures.legal c.in_ok-drawn.ensures.right c.in_ok-drawn.ensures.for_ranks ones
    (c.in_ok-round.ensures.before ∙ ap words_of (ap (λ vs. lists_of vs) c.deref_mut.ensures.value ∙ c.in_ok-drawn.ensures.zeros))
    (c.in_ok-round.ensures.asks ∙ ap (λ vs. asks_of c.args.a.now Sum (lists_of vs)) c.deref.ensures.value)
