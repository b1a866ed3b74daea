use Rattle.std.proofs.Common.{◌≡◌, length, subst, arith}
use Rattle.std.specs.Prelude.{IfOk}
use Rattle.plain_lists.specs.Vectors.{lists_of}
use Rattle.sf_defs.specs.Forest.{Forest}
use Rattle.orient_iface.proofs.moved_points.Routed.{forest-is, moved-ranks}
use Rattle.orient_iface.proofs.moved_points.forest.moved_forest.Goals as goal

pub made_of-requires : goal.made_of-requires
made_of-requires c =
    let end : c.loop-rank.rank ≡ length c.args.forest.now.roots = omega (arith, c.ranks-rank-end.ensures.ranks, c.loop-rank-test.false, c.loop-rank.auto.rank-end) in
    moved-ranks (lists_of c.args.moves.now) c.args.forest.now c.requires c.ranks-rank-end.ensures.for_ranks c.loop-rank.roots.items (lists_of c.loop-rank.leaves.items) c.loop-rank.rank c.loop-rank.invariant.roots c.loop-rank.invariant.leaves end

pub returns : goal.returns
returns c =
    let end : c.loop-rank.rank ≡ length c.args.forest.now.roots = omega (arith, c.ranks-rank-end.ensures.ranks, c.loop-rank-test.false, c.loop-rank.auto.rank-end) in
    subst (λ (x : Forest). IfOk c.made_of.result (λ f. f ≡ x)) (forest-is (lists_of c.args.moves.now) c.args.forest.now c.requires c.ranks-rank-end.ensures.for_ranks c.loop-rank.roots.items (lists_of c.loop-rank.leaves.items) c.loop-rank.rank c.loop-rank.invariant.roots c.loop-rank.invariant.leaves end) c.made_of.ensures
