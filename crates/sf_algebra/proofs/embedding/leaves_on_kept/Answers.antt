use Rattle.std.proofs.Common.{◌≡◌, Bool, List, [], ◌∷◌, ◌++◌, length, take, filter, arith, sym, ap, ◌∙◌}
use Rattle.std.proofs.Math.Seq.{take-length}
use Rattle.plain_lists.specs.Vectors.{lists_of}
use Rattle.sf_defs.specs.declared.Leaf.{Leaf}
use Rattle.sf_defs.specs.Forest.{is_kept, leaves_on, root_at}
use Rattle.sf_algebra.proofs.Steps.{filter-more, filter-same}
use Rattle.sf_algebra.proofs.Fitting.{rooted, flag-there}
use Rattle.sf_algebra.proofs.embedding.leaves_on_kept.Goals as goal
use Rattle.sf_algebra.proofs.embedding.leaves_on_kept.Goals.{then-is_kept+in_ok-push, else-is_kept}

pub is_kept-requires-clause-rank : goal.is_kept-requires-clause-rank
is_kept-requires-clause-rank c =
    let root = rooted c.args.a.now c.args.rank c.loop-i.i c.leaf-leaf.result c.requires.right c.requires.for_ranks c.requires.rank c.leaf-leaf.ensures in
    (flag-there c.args.a.now c.args.keep.now c.leaf-leaf.result c.requires.lengths root.0 root.1).0

pub is_kept-requires-clause-root : goal.is_kept-requires-clause-root
is_kept-requires-clause-root c =
    let root = rooted c.args.a.now c.args.rank c.loop-i.i c.leaf-leaf.result c.requires.right c.requires.for_ranks c.requires.rank c.leaf-leaf.ensures in
    (flag-there c.args.a.now c.args.keep.now c.leaf-leaf.result c.requires.lengths root.0 root.1).1

pub loop-i-preserved : goal.loop-i-preserved
loop-i-preserved c =
    let leaves : List Leaf = leaves_on c.args.a.now c.args.rank in
    let keeps : Leaf → Bool = λ l. is_kept (lists_of c.args.keep.now) (root_at l) in
    elim c.if-is_kept.branch [
      | then-is_kept+in_ok-push w ↦
          ap (λ v. v.items) w.own-is ∙ w.in_ok-push.ensures.items ∙ ap (λ l. l ++ c.leaf-leaf.result ∷ []) c.loop-i.invariant
          ∙ sym (filter-more keeps leaves c.loop-i.i c.leaf-leaf.result c.leaf-leaf.ensures (sym c.is_kept.ensures ∙ w.if-is_kept.true))
      | else-is_kept w ↦
          ap (λ v. v.items) w.own-is ∙ c.loop-i.invariant
          ∙ sym (filter-same keeps leaves c.loop-i.i c.leaf-leaf.result c.leaf-leaf.ensures (sym c.is_kept.ensures ∙ w.if-is_kept.false))
    ]

pub returns : goal.returns
returns c =
    let all : c.loop-i.i ≡ length (leaves_on c.args.a.now c.args.rank) = omega (arith, c.leaf_count-i-end.ensures) in
    let leaves : List Leaf = leaves_on c.args.a.now c.args.rank in
    let keeps : Leaf → Bool = λ l. is_kept (lists_of c.args.keep.now) (root_at l) in
    c.loop-i.invariant ∙ ap (filter keeps) (ap (λ n. take n leaves) all ∙ take-length leaves)
