use Rattle.std.proofs.Common.{◌∷◌, [], length, get_or, arith, ap, sym, subst, ◌∙◌}
use Rattle.std.proofs.lemmas.List.{length-append}
use Rattle.plain_lists.specs.Vectors.{lists_of}
use Rattle.sf_defs.specs.Forest.{leaves_on}
use Rattle.sf_ops.specs.slots.Ones.{AreOnes}
use Rattle.sf_ops.proofs.slots.Draws.{ones-more}
use Rattle.sf_ops.proofs.slots.values.ones.Goals as goal

pub loop-rank-preserved : goal.loop-rank-preserved
loop-rank-preserved c =
    let own = c.in_ok-vec.ensures.items_if_clones_equal (λ y h. h) in
    let more = ones-more c.loop-rank.values.items c.in_ok-vec.field-0 c.args.forest.now.leaves c.loop-rank.rank c.reach.result c.loop-rank.invariant.ranks own c.reach.ensures c.loop-rank.invariant.ones in
    record {
      ranks = ap length c.in_ok-push.ensures.items ∙ (length-append c.loop-rank.values.items (c.in_ok-vec.field-0 ∷ []) ∙ omega (arith, c.loop-rank.invariant.ranks));
      ones = λ rank h. subst (λ vs. AreOnes (get_or (lists_of vs) rank []) (leaves_on c.args.forest.now rank)) (sym c.in_ok-push.ensures.items) (more rank h);
    }
