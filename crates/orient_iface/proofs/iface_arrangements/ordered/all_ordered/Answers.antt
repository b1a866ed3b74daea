use Rattle.std.proofs.Common.{◌≡◌, ℕ, ◌<◌, [], length, get_or, Vec, Global, ap, sym, ◌∙◌, arith}
use Rattle.plain_lists.specs.Vectors.{lists_of}
use Rattle.rank_chart_laws.proofs.meeting_laws.Loops.{list_at, lists_pushed, made_below}
use Rattle.sf_ops.proofs.Words.{length-lists_of}
use Rattle.orient_iface.proofs.iface_keys.Bounds.{count-is, entry-long}
use Rattle.rank_chart_laws.specs.key_laws.Words.{part}
use Rattle.rank_cones.specs.arrangement_laws.Told.{all_ordered, ordered_by}
use Rattle.orient_iface.proofs.iface_arrangements.ordered.all_ordered.Goals as goal

pub ordered_by-requires-clause-shape : goal.ordered_by-requires-clause-shape
ordered_by-requires-clause-shape c =
    let rank : ℕ = c.loop-rank.rank in
    let here : rank < length c.args.shared.now.parts = omega (arith, c.loop-rank-test.true, c.ranks-rank-end.ensures.ranks) in
    let low : rank < length c.args.orders.now = omega (arith, here, count-is c.args.shared.now c.requires.laid_out (lists_of c.args.orders.now) c.requires.shape, length-lists_of c.args.orders.now) in
    ap length (c.deref.ensures.value ∙ (ap (λ (v : Vec ℕ Global). v.items) c.index-orders-rank.is ∙ sym (list_at c.args.orders.now rank c.index-orders-rank.result low)))
    ∙ entry-long c.args.shared.now c.requires.laid_out (lists_of c.args.orders.now) c.requires.shape rank here

pub loop-rank-preserved : goal.loop-rank-preserved
loop-rank-preserved c =
    let rank : ℕ = c.loop-rank.rank in
    let here : rank < length c.args.shared.now.parts = omega (arith, c.loop-rank-test.true, c.ranks-rank-end.ensures.ranks) in
    let low : rank < length c.args.orders.now = omega (arith, here, count-is c.args.shared.now c.requires.laid_out (lists_of c.args.orders.now) c.requires.shape, length-lists_of c.args.orders.now) in
    let own : c.deref.result.now ≡ get_or (lists_of c.args.orders.now) rank [] = c.deref.ensures.value ∙ (ap (λ (v : Vec ℕ Global). v.items) c.index-orders-rank.is ∙ sym (list_at c.args.orders.now rank c.index-orders-rank.result low)) in
    lists_pushed (λ r. ordered_by (part c.args.shared.now r) (get_or (lists_of c.args.orders.now) r [])) rank c.loop-rank.all.items c.push.new.self.items c.in_ok-ordered_by.field-0 c.loop-rank.invariant
    (c.in_ok-ordered_by.ensures ∙ ap (ordered_by (part c.args.shared.now rank)) own) c.in_ok-push.ensures.items

pub returns : goal.returns
unfolding all_ordered
returns c = made_below (λ r. ordered_by (part c.args.shared.now r) (get_or (lists_of c.args.orders.now) r [])) c.loop-rank.rank (length c.args.shared.now.parts) (lists_of c.loop-rank.all.items) c.loop-rank.invariant (omega (arith, c.ranks-rank-end.ensures.ranks, c.loop-rank-test.false, c.loop-rank.auto.rank-end))
