use Rattle.std.proofs.Common.{[], ◌∷◌, length, get_or, ap, sym, subst, ◌∙◌}
use Rattle.plain_lists.specs.Vectors.{lists_of}
use Rattle.sf_ops.specs.Asked.{CoversOwn}
use Rattle.sf_tests.proofs.algebra_tests.Covers.{covers-more}
use Rattle.sf_tests.proofs.algebra_tests.Lengths.{length-more}
use Rattle.sf_tests.proofs.algebra_tests.words.leaf_words.Goals as goal

pub loop-rank-preserved : goal.loop-rank-preserved
loop-rank-preserved c =
    let more = covers-more c.loop-rank.values.items c.in_ok-own_words.field-0 c.args.forest.now.leaves c.loop-rank.rank c.reach.result c.loop-rank.invariant.ranks c.in_ok-own_words.ensures c.reach.ensures c.loop-rank.invariant.places in
    record {
      ranks = ap length c.in_ok-push.ensures.items ∙ length-more c.loop-rank.values.items c.in_ok-own_words.field-0 c.loop-rank.rank c.loop-rank.invariant.ranks;
      places = λ rank h. subst (λ vs. CoversOwn (get_or (lists_of vs) rank []) (get_or c.args.forest.now.leaves rank [])) (sym c.in_ok-push.ensures.items) (more rank h);
    }
