use Rattle.std.proofs.Common.{◌≡◌, ℕ, ◌<◌, length, get_or, take, arith, sym, ap, subst, ◌∙◌, List, []}
use Rattle.std.specs.declared.vec.Vec.{Vec}
use Rattle.std.specs.declared.alloc.Global.{Global}
use Rattle.std.proofs.Math.Seq.{take-length}
use Rattle.plain_lists.specs.Vectors.{lists_of}
use Rattle.sf_ops.specs.Asked.{asks_of, own_asks}
use Rattle.sf_defs.specs.Forest.{leaves_on}
use Rattle.sf_ops.proofs.Words.{asks_of-more, length-asks_of, lists_of-at, length-lists_of}
use Rattle.sf_ops.proofs.asking.asks_of.Goals as goal

pub loop-rank-preserved : goal.loop-rank-preserved
loop-rank-preserved c =
    let within : c.loop-rank.rank < length c.args.forest.now.roots = omega (arith, c.ranks-rank-end.ensures.ranks) in
    let vectors : c.loop-rank.rank < length c.args.leaves.now = subst (λ (n : ℕ). c.loop-rank.rank < n) (sym c.requires.ranks ∙ length-lists_of c.args.leaves.now) within in
    let values : c.deref-in-loop-rank.result.now ≡ get_or (lists_of c.args.leaves.now) c.loop-rank.rank [] = c.deref-in-loop-rank.ensures.value ∙ (ap (λ (v : Vec ℕ Global). v.items) c.index-leaves-rank.is ∙ sym (lists_of-at c.args.leaves.now c.loop-rank.rank c.index-leaves-rank.result vectors)) in
    let own = c.in_ok-own_asks.ensures ∙ ap (λ (vs : List ℕ). own_asks c.args.forest.now.roots c.args.op vs (leaves_on c.args.forest.now c.loop-rank.rank)) values in
    ap lists_of c.in_ok-push.ensures.items ∙ asks_of-more c.args.forest.now c.args.op (lists_of c.args.leaves.now) c.loop-rank.rank c.loop-rank.asks.items c.in_ok-own_asks.field-0 (omega (arith, c.ranks-rank-end.ensures.for_ranks.ranks)) c.loop-rank.invariant own

pub returns-clause-asks : goal.returns-clause-asks
returns-clause-asks c =
    let whole : c.loop-rank.rank ≡ length (asks_of c.args.forest.now c.args.op (lists_of c.args.leaves.now)) = sym (length-asks_of c.args.forest.now c.args.op (lists_of c.args.leaves.now) ∙ omega (arith, c.ranks-rank-end.ensures.ranks, c.ranks-rank-end.ensures.for_ranks.ranks)) in
    c.loop-rank.invariant ∙ (ap (λ (n : ℕ). take n (asks_of c.args.forest.now c.args.op (lists_of c.args.leaves.now))) whole ∙ take-length (asks_of c.args.forest.now c.args.op (lists_of c.args.leaves.now)))
