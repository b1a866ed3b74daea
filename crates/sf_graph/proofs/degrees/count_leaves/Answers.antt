use Rattle.std.proofs.Common.{get_or, arith}
use Rattle.plain_lists.proofs.Each.{all_at}
use Rattle.sf_defs.specs.declared.Leaf.{Leaf}
use Rattle.sf_graph.specs.Parts.{HasCount}
use Rattle.sf_graph.proofs.Counts.{counted_place, counted_more, same_within, counted_bound}
use Rattle.sf_graph.proofs.degrees.count_leaves.Goals as goal

pub count-requires-clause-place : goal.count-requires-clause-place
count-requires-clause-place c = counted_place c.loop-leaf.counts c.args.counts.now (get_or c.args.leaves.now c.loop-leaf.leaf-index record { local = 0; rank = 0; index = 0 }) c.index-counts-leaf.result c.loop-leaf.invariant.shape (all_at (HasCount c.args.counts.now) c.args.leaves.now c.loop-leaf.leaf-index record { local = 0; rank = 0; index = 0 } c.requires.places (omega arith))

pub count-requires-clause-fits : goal.count-requires-clause-fits
count-requires-clause-fits c = counted_bound c.args.counts.now c.loop-leaf.counts c.args.leaves.now c.loop-leaf.leaf-index (get_or c.args.leaves.now c.loop-leaf.leaf-index record { local = 0; rank = 0; index = 0 }) c.index-counts-leaf.result c.loop-leaf.invariant.shape c.loop-leaf.invariant.counted (omega arith) (all_at (HasCount c.args.counts.now) c.args.leaves.now c.loop-leaf.leaf-index record { local = 0; rank = 0; index = 0 } c.requires.places (omega arith)) c.requires.fits

pub loop-leaf-preserved : goal.loop-leaf-preserved
loop-leaf-preserved c =
    let leaf : Leaf = get_or c.args.leaves.now c.loop-leaf.leaf-index record { local = 0; rank = 0; index = 0 } in
    let more = counted_more c.args.counts.now c.loop-leaf.counts c.args.leaves.now c.loop-leaf.leaf-index leaf c.index-counts-leaf.result c.count.new.self c.loop-leaf.invariant.shape c.loop-leaf.invariant.counted (omega arith) (same_within c.args.leaves.now c.loop-leaf.leaf-index leaf record { local = 0; rank = 0; index = 0 } (omega arith)) (all_at (HasCount c.args.counts.now) c.args.leaves.now c.loop-leaf.leaf-index record { local = 0; rank = 0; index = 0 } c.requires.places (omega arith)) c.count.ensures in
    record { shape = more.0; counted = more.1 }
