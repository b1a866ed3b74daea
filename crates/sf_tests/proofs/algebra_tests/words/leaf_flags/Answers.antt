use Rattle.std.proofs.Common.{◌≡◌, ◌<◌, length, map, arith, ap, sym, subst, ◌∙◌}
use Rattle.std.proofs.lemmas.List.{length-map}
use Rattle.plain_lists.specs.Vectors.{lists_of}
use Rattle.sf_tests.proofs.algebra_tests.Lengths.{length_at, lengths-more}
use Rattle.sf_tests.proofs.algebra_tests.words.leaf_flags.Goals as goal

pub loop-rank-preserved : goal.loop-rank-preserved
loop-rank-preserved c =
    let within : c.loop-rank.rank < length c.args.forest.now.leaves = omega (arith, c.ranks-rank-end.ensures.ranks, c.ranks-rank-end.ensures.for_ranks.ranks) in
    let mapped : c.loop-rank.rank < length (map length c.args.forest.now.leaves) = subst (λ n. c.loop-rank.rank < n) (sym (length-map c.args.forest.now.leaves length)) within in
    ap (λ vs. map length (lists_of vs)) c.in_ok-push.ensures.items ∙ lengths-more c.loop-rank.keep.items c.in_ok-flags.field-0 (map length c.args.forest.now.leaves) c.loop-rank.rank c.loop-rank.invariant mapped (c.in_ok-flags.ensures ∙ (c.leaf_count.ensures ∙ length_at c.args.forest.now.leaves c.loop-rank.rank))
