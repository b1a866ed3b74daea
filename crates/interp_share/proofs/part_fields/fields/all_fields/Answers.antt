use Rattle.std.proofs.Common.{◌≡◌, ℕ, ◌<◌, [], Vec, Global, map, length, get_or, sym, ap, subst, ◌∙◌, arith}
use Rattle.plain_lists.specs.Lists.{below}
use Rattle.plain_lists.specs.Vectors.{lists_of}
use Rattle.sf_ops.proofs.Words.{length-lists_of}
use Rattle.dist_state.specs.scatter_state.Whole.{part_at}
use Rattle.rank_chart_laws.proofs.meeting_laws.Loops.{list_at, lists_pushed}
use Rattle.interp_share.specs.part_fields.Ranks.{AreLowWeights, fields_at, fields_with}
use Rattle.interp_share.proofs.part_fields.Scatters.{low-at, fields-all}
use Rattle.interp_share.proofs.part_fields.fields.all_fields.Goals as goal

pub fields_of_rank-requires-clause-weights : goal.fields_of_rank-requires-clause-weights
fields_of_rank-requires-clause-weights g c = λ some.
    let s = c.args.scatter.now in
    let h = c.requires.shared.some in
    let r = c.loop-rank.rank in
    let ws = c.in_ok-weights.weights.items in
    let needed = c.in_ok-weights.ensures.weights in
    let low : r < length s.parts = omega (arith, c.loop-rank-test.true, c.ranks-rank-end.ensures.ranks) in
    let inside : r < length ws = omega (arith, low, needed.many, length-lists_of ws) in
    let here : c.deref.result.now ≡ get_or (lists_of ws) r [] = c.deref.ensures.value ∙ (ap (λ (v : Vec ℕ Global). v.items) c.index-own.ensures ∙ sym (list_at ws r c.index-own.result.now inside)) in
    subst (AreLowWeights (part_at s.parts r)) (sym here) (low-at s h.m h.dofs h.a h.n h.is (lists_of ws) (needed.totals some h.m h.dofs h.a h.n h.is) r low)

pub loop-rank-preserved : goal.loop-rank-preserved
loop-rank-preserved g c =
    let s = c.args.scatter.now in
    let r = c.loop-rank.rank in
    let ws = c.in_ok-weights.weights.items in
    let needed = c.in_ok-weights.ensures.weights in
    let inside : r < length ws = omega (arith, c.loop-rank-test.true, c.ranks-rank-end.ensures.ranks, needed.many, length-lists_of ws) in
    let here : c.deref.result.now ≡ get_or (lists_of ws) r [] = c.deref.ensures.value ∙ (ap (λ (v : Vec ℕ Global). v.items) c.index-own.ensures ∙ sym (list_at ws r c.index-own.result.now inside)) in
    lists_pushed (fields_at s (lists_of ws)) r c.loop-rank.all.items c.push.new.self.items c.in_ok-fields_of_rank.field-0 c.loop-rank.invariant (c.in_ok-fields_of_rank.ensures ∙ ap (fields_with s (part_at s.parts r)) here) c.in_ok-push.ensures.items

pub returns-clause-fields : goal.returns-clause-fields
returns-clause-fields g c = λ m dofs a n is.
    let s = c.args.scatter.now in
    let ws = lists_of c.in_ok-weights.weights.items in
    let end : c.loop-rank.rank ≡ length s.parts = omega (arith, c.loop-rank-test.false, c.loop-rank.auto.rank-end, c.ranks-rank-end.ensures.ranks) in
    c.loop-rank.invariant ∙ (ap (λ k. map (fields_at s ws) (below k)) end ∙ fields-all s m dofs a n is ws c.in_ok-weights.ensures.weights)
