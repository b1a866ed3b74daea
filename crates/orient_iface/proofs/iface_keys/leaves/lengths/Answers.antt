use Rattle.std.proofs.Common.{ℕ, ◌^◌, ◌<◌, List, [], length, Vec, Global, ap, sym, ◌∙◌, arith}
use Rattle.plain_lists.specs.Vectors.{lists_of}
use Rattle.plain_lists.proofs.Each.{all_at}
use Rattle.rank_chart_laws.proofs.meeting_laws.Loops.{list_at, mapped_more}
use Rattle.sf_ops.proofs.Words.{length-lists_of}
use Rattle.orient_iface.proofs.iface_keys.leaves.lengths.Goals as goal

pub overflow_cast-len : goal.overflow_cast-len
overflow_cast-len c =
    let count = length-lists_of c.args.lists.now in
    let few = all_at (λ (list : List ℕ). length list < 2 ^ 32) (lists_of c.args.lists.now) c.loop-list.list-index [] c.requires (omega (arith, c.loop-list-test.true, count)) in
    let own = ap length (list_at c.args.lists.now c.loop-list.list-index c.list-item.result (omega (arith, c.loop-list-test.true))) in
    let item = ap (λ (v : Vec ℕ Global). length v.items) c.list-item.is in
    let long = c.len.ensures ∙ c.list-item.result.ok.0 in
    omega (arith, few, own, item, long)

pub loop-list-preserved : goal.loop-list-preserved
loop-list-preserved c =
    let count = length-lists_of c.args.lists.now in
    let own = ap length (list_at c.args.lists.now c.loop-list.list-index c.list-item.result (omega (arith, c.loop-list-test.true))) in
    let item = ap (λ (v : Vec ℕ Global). length v.items) c.list-item.is in
    let long = c.len.ensures ∙ c.list-item.result.ok.0 in
    mapped_more (length {A = ℕ}) (lists_of c.args.lists.now) c.loop-list.list-index [] c.loop-list.lengths.items c.push.new.self.items c.len.result c.loop-list.invariant (omega (arith, c.loop-list-test.true, count)) (long ∙ (item ∙ sym own)) c.in_ok-push.ensures.items
