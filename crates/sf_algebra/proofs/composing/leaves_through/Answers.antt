use Rattle.std.proofs.Common.{List, [], ◌∷◌, ◌++◌, arith, sym, ap, ◌∙◌}
use Rattle.sf_defs.specs.declared.Leaf.{Leaf}
use Rattle.sf_defs.specs.Forest.{leaves_on, through}
use Rattle.sf_algebra.proofs.Steps.{filter_map-more, filter_map-same}
use Rattle.sf_algebra.proofs.Fitting.{rooted}
use Rattle.sf_algebra.proofs.composing.leaves_through.Goals as goal
use Rattle.sf_algebra.proofs.composing.leaves_through.Goals.{in-Some+in_ok-push, in_default}

pub through-requires : goal.through-requires
through-requires c = let root = rooted c.args.b.now c.args.rank c.loop-i.i c.leaf.result c.requires.right c.requires.for_ranks c.requires.rank c.leaf.ensures in omega (arith, root.0, c.requires.ranks)

pub loop-i-preserved : goal.loop-i-preserved
loop-i-preserved c =
    let leaves : List Leaf = leaves_on c.args.b.now c.args.rank in
    elim c.match-through.branch [
      | in-Some+in_ok-push w ↦
          ap (λ v. v.items) w.own-is ∙ w.in_ok-push.ensures.items ∙ ap (λ l. l ++ w.in-Some.leaf ∷ []) c.loop-i.invariant
          ∙ sym (filter_map-more (through c.args.a.now) leaves c.loop-i.i c.leaf.result w.in-Some.leaf c.leaf.ensures (sym c.through.ensures ∙ w.in-Some.is))
      | in_default w ↦
          ap (λ v. v.items) w.own-is ∙ c.loop-i.invariant
          ∙ sym (filter_map-same (through c.args.a.now) leaves c.loop-i.i c.leaf.result c.leaf.ensures (sym c.through.ensures ∙ w.in_default.is))
    ]
