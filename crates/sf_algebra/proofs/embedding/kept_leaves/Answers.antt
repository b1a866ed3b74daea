use Rattle.std.proofs.Common.{◌<◌, List, [], ◌∷◌, ◌++◌, length, arith, sym, ap, ◌∙◌}
use Rattle.std.proofs.lemmas.Option.{slice_get-get_or}
use Rattle.sf_defs.specs.declared.Leaf.{Leaf}
use Rattle.sf_defs.specs.Forest.{leaves_on}
use Rattle.sf_algebra.proofs.Steps.{selected-none, selected-more, selected-same}
use Rattle.sf_algebra.proofs.embedding.kept_leaves.Goals as goal
use Rattle.sf_algebra.proofs.embedding.kept_leaves.Goals.{then-keep-i+in_ok-push, else-keep-i}

pub loop-i-init : goal.loop-i-init
loop-i-init c = c.new-own.ensures.items ∙ sym (selected-none c.args.keep.now)

pub loop-i-preserved : goal.loop-i-preserved
loop-i-preserved c =
    let leaves : List Leaf = leaves_on c.args.a.now c.args.rank in
    let within : c.loop-i.i < length leaves = omega (arith, c.leaf_count-i-end.ensures) in
    elim c.if-keep-i.branch [
      | then-keep-i+in_ok-push w ↦
          ap (λ v. v.items) w.own-is ∙ w.in_ok-push.ensures.items ∙ ap (λ l. l ++ w.leaf.result ∷ []) c.loop-i.invariant
          ∙ sym (selected-more c.args.keep.now leaves c.loop-i.i w.leaf.result w.leaf.ensures c.requires.length w.if-keep-i.true)
      | else-keep-i w ↦
          ap (λ v. v.items) w.own-is ∙ c.loop-i.invariant
          ∙ sym (selected-same c.args.keep.now leaves c.loop-i.i _ (slice_get-get_or leaves c.loop-i.i record { local = 0; rank = 0; index = 0 } within) c.requires.length w.if-keep-i.false)
    ]
