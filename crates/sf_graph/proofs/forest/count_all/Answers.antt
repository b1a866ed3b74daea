use Rattle.std.proofs.Common.{◌≡◌, ℕ, length, map, get_or, take, arith, ap, sym, subst, count_by, sum_by, ◌∙◌, List}
use Rattle.std.specs.List.{AllByRecursion}
use Rattle.std.proofs.Math.Seq.{take-length}
use Rattle.std.proofs.lemmas.List.Sums.{sum_by_more_le_part, count_by-le-length}
use Rattle.sf_defs.specs.Forest.{is_on_root, degree}
use Rattle.sf_graph.specs.Parts.{count_at, HasCount}
use Rattle.sf_graph.proofs.Counts.{no_counts-shape, no_counts-none}
use Rattle.sf_graph.proofs.Ranks.{leaves_have_counts}
use Rattle.sf_graph.proofs.forest.count_all.Goals as goal

pub loop-own-init : goal.loop-own-init
loop-own-init c = record {
  shape = ap (map length) c.requires.none ∙ no_counts-shape c.args.roots.now;
  counted = λ rank index. ap (λ (counts : List (List ℕ)). count_at counts rank index) c.requires.none ∙ no_counts-none c.args.roots.now rank index;
}

pub count_leaves-requires-clause-places : goal.count_leaves-requires-clause-places
count_leaves-requires-clause-places c = subst (AllByRecursion (HasCount c.loop-own.counts)) (sym (c.as_slice.ensures ∙ c.own-item.is)) (leaves_have_counts c.args.roots.now c.args.leaves.now c.loop-own.counts c.loop-own.own-index c.own-item.result c.requires.right c.loop-own.invariant.shape (omega arith))

pub count_leaves-requires-clause-fits : goal.count_leaves-requires-clause-fits
count_leaves-requires-clause-fits c = λ rank index.
    let few = sum_by_more_le_part (count_by (is_on_root (rank, index))) length c.args.leaves.now c.loop-own.own-index c.own-item.result (omega arith) (count_by-le-length (is_on_root (rank, index))) in
    let same : length c.as_slice.result.now ≡ length (get_or c.args.leaves.now c.loop-own.own-index c.own-item.result) = ap length (c.as_slice.ensures ∙ c.own-item.is) in
    omega (arith, c.loop-own.invariant.counted rank index, c.requires.for_ranks.few_leaves)

pub returns : goal.returns
unfolding degree
returns c = let whole : c.loop-own.own-index ≡ length c.args.leaves.now = omega arith in record {
  right = c.requires.right;
  for_ranks = c.requires.for_ranks;
  shape = c.loop-own.invariant.shape;
  degrees = λ rank index. c.loop-own.invariant.counted rank index ∙ ap (sum_by (count_by (is_on_root (rank, index)))) (ap (λ (n : ℕ). take n c.args.leaves.now) whole ∙ take-length c.args.leaves.now);
}
