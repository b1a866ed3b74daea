use Rattle.std.proofs.Common.{◌<◌, [], length, get_or, arith, sym, subst, ap, ◌∙◌}
use Rattle.std.proofs.lemmas.List.{length-map}
use Rattle.sf_defs.specs.Forest.{leaves_on}
use Rattle.sf_algebra.proofs.Fitting.{rooted, length_at, same_within}
use Rattle.sf_algebra.proofs.Noting.{noted-more}
use Rattle.sf_algebra.proofs.found.note_leaves.Goals as goal

pub bounds-found-leaf : goal.bounds-found-leaf
bounds-found-leaf c =
    let root = rooted c.args.forest.now c.args.rank c.loop-i.i c.leaf-leaf.result c.requires.right c.requires.for_ranks c.requires.rank c.leaf-leaf.ensures in
    omega (arith, root.0, length-map c.loop-i.found length, ap length c.loop-i.invariant.shape)

pub note-requires : goal.note-requires
note-requires c =
    let root = rooted c.args.forest.now c.args.rank c.loop-i.i c.leaf-leaf.result c.requires.right c.requires.for_ranks c.requires.rank c.leaf-leaf.ensures in
    let rank : c.leaf-leaf.result.rank < length c.loop-i.found = omega (arith, root.0, length-map c.loop-i.found length, ap length c.loop-i.invariant.shape) in
    subst (λ n. c.leaf-leaf.result.index < n) (sym (ap length (same_within c.loop-i.found c.leaf-leaf.result.rank c.index-found-leaf.result [] rank) ∙ (length_at c.loop-i.found c.leaf-leaf.result.rank ∙ ap (λ ns. get_or ns c.leaf-leaf.result.rank 0) c.loop-i.invariant.shape))) root.1

pub loop-i-preserved : goal.loop-i-preserved
loop-i-preserved c =
    let root = rooted c.args.forest.now c.args.rank c.loop-i.i c.leaf-leaf.result c.requires.right c.requires.for_ranks c.requires.rank c.leaf-leaf.ensures in
    let rank : c.leaf-leaf.result.rank < length c.loop-i.found = omega (arith, root.0, length-map c.loop-i.found length, ap length c.loop-i.invariant.shape) in
    let index : c.leaf-leaf.result.index < length (get_or c.loop-i.found c.leaf-leaf.result.rank c.index-found-leaf.result) = subst (λ n. c.leaf-leaf.result.index < n) (sym (ap length (same_within c.loop-i.found c.leaf-leaf.result.rank c.index-found-leaf.result [] rank) ∙ (length_at c.loop-i.found c.leaf-leaf.result.rank ∙ ap (λ ns. get_or ns c.leaf-leaf.result.rank 0) c.loop-i.invariant.shape))) root.1 in
    let more = noted-more c.args.found.now c.loop-i.found c.args.forest.now.roots (leaves_on c.args.forest.now c.args.rank) c.args.rank c.loop-i.i c.leaf-leaf.result c.note.new.self c.index-found-leaf.result c.loop-i.invariant.shape c.loop-i.invariant.noted c.leaf-leaf.ensures rank index c.note.ensures in
    record { shape = more.0; noted = more.1 }
