use Rattle.std.proofs.Common.{◌≡◌, ◌<◌, ◌+◌, List, ℕ, length, get_or, arith, ap, ◌∙◌}
use Rattle.sf_defs.specs.declared.Leaf.{Leaf}
use Rattle.sf_defs.specs.Forest.{leaf, leaves_on}
use Rattle.sf_defs.specs.slots.Slots.{first_slot, slot_leaves}
use Rattle.sf_ops.proofs.slots.Listing.{firsts-length, found, slot-fits, made-more, made-all, rooted, drawn-within, slot-leaf-at, slot-leaves-length}
use Rattle.sf_ops.proofs.slots.making.slot_leaves.Goals as goal

pub bounds-firsts-leaf : goal.bounds-firsts-leaf
bounds-firsts-leaf c =
    let root = rooted c.args.a.now c.args.rank c.loop-i.i c.leaf-leaf.result c.requires.right c.requires.for_ranks c.requires.rank c.leaf-leaf.ensures in
    omega (arith, root.0, firsts-length c.args.a.now, ap length c.requires.firsts)

pub at-first-requires : goal.at-first-requires
at-first-requires c =
    let root = rooted c.args.a.now c.args.rank c.loop-i.i c.leaf-leaf.result c.requires.right c.requires.for_ranks c.requires.rank c.leaf-leaf.ensures in
    let there = found c.args.a.now c.leaf-leaf.result c.args.firsts.now c.index-firsts-leaf.result root.0 root.1 c.requires.firsts c.index-firsts-leaf.is in
    there.index

pub overflow_cast-drawn : goal.overflow_cast-drawn
overflow_cast-drawn c =
    let root = rooted c.args.a.now c.args.rank c.loop-i.i c.leaf-leaf.result c.requires.right c.requires.for_ranks c.requires.rank c.leaf-leaf.ensures in
    let drawn = drawn-within c.args.a.now (leaves_on c.args.a.now c.args.rank) c.args.drawn.now c.loop-i.i c.leaf-leaf.result c.requires.count c.leaf-leaf.ensures c.requires.within in
    let fits = slot-fits c.args.a.now c.leaf-leaf.result.rank c.leaf-leaf.result.index c.requires.for_ranks root.0 root.1 in
    omega (arith, drawn, fits)

pub overflow_add-first : goal.overflow_add-first
overflow_add-first c =
    let root = rooted c.args.a.now c.args.rank c.loop-i.i c.leaf-leaf.result c.requires.right c.requires.for_ranks c.requires.rank c.leaf-leaf.ensures in
    let there = found c.args.a.now c.leaf-leaf.result c.args.firsts.now c.index-firsts-leaf.result root.0 root.1 c.requires.firsts c.index-firsts-leaf.is in
    let drawn = drawn-within c.args.a.now (leaves_on c.args.a.now c.args.rank) c.args.drawn.now c.loop-i.i c.leaf-leaf.result c.requires.count c.leaf-leaf.ensures c.requires.within in
    let fits = slot-fits c.args.a.now c.leaf-leaf.result.rank c.leaf-leaf.result.index c.requires.for_ranks root.0 root.1 in
    omega (arith, drawn, fits, there.first, c.at-first.ensures)

pub loop-i-preserved : goal.loop-i-preserved
loop-i-preserved c =
    let made : List Leaf = slot_leaves c.args.a.now (leaves_on c.args.a.now c.args.rank) c.args.drawn.now in
    let root = rooted c.args.a.now c.args.rank c.loop-i.i c.leaf-leaf.result c.requires.right c.requires.for_ranks c.requires.rank c.leaf-leaf.ensures in
    let there = found c.args.a.now c.leaf-leaf.result c.args.firsts.now c.index-firsts-leaf.result root.0 root.1 c.requires.firsts c.index-firsts-leaf.is in
    let within : c.loop-i.i < length made = omega (arith, c.leaf_count-i-end.ensures, slot-leaves-length c.args.a.now (leaves_on c.args.a.now c.args.rank) c.args.drawn.now c.requires.count) in
    let here = slot-leaf-at c.args.a.now (leaves_on c.args.a.now c.args.rank) c.args.drawn.now c.loop-i.i c.leaf-leaf.result c.leaf-leaf.result c.requires.count c.leaf-leaf.ensures in
    let first : c.at-first.result ≡ first_slot c.args.a.now c.leaf-leaf.result.rank c.leaf-leaf.result.index = c.at-first.ensures ∙ there.first in
    c.in_ok-push.ensures.items ∙ made-more made c.loop-i.own.items _ c.leaf-leaf.result c.loop-i.i c.loop-i.invariant within (ap (λ (n : ℕ). leaf c.leaf-leaf.result.local (c.leaf-leaf.result.rank, n + get_or c.args.drawn.now c.loop-i.i 0)) first ∙ here)

pub returns : goal.returns
returns c = made-all (slot_leaves c.args.a.now (leaves_on c.args.a.now c.args.rank) c.args.drawn.now) c.loop-i.own.items c.loop-i.i c.loop-i.invariant (omega (arith, c.leaf_count-i-end.ensures, slot-leaves-length c.args.a.now (leaves_on c.args.a.now c.args.rank) c.args.drawn.now c.requires.count))
