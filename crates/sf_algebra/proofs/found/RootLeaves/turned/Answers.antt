use Rattle.std.proofs.Common.{◌≡◌, ◌++◌, ◌∷◌, [], ℕ, None, Option, get_or, option_map, arith, sym, ap, ◌∙◌}
use Rattle.sf_defs.specs.declared.Leaf.{Leaf}
use Rattle.sf_defs.specs.Forest.{leaf}
use Rattle.sf_algebra.proofs.Fitting.{same_within}
use Rattle.sf_algebra.proofs.Steps.{below_map-more, below_map-same}
use Rattle.sf_algebra.proofs.found.RootLeaves.turned.Goals as goal
use Rattle.sf_algebra.proofs.found.RootLeaves.turned.Goals.{in-Some+in_ok-push, in_default}

pub loop-i-preserved : goal.loop-i-preserved
loop-i-preserved c =
    let turned : ℕ → Option Leaf = λ i. option_map (leaf i) (get_or c.args.self.now i None) in
    let here : get_or c.args.self.now c.loop-i.i None ≡ c.index.result.now = ap (λ items. get_or items c.loop-i.i None) (sym c.self.view_is) ∙ (same_within c.self.inside.leaves.items c.loop-i.i None c.index.result.now (omega (arith, c.len-i-end.ensures)) ∙ sym c.index.ensures) in
    elim c.match-index.branch [
      | in-Some+in_ok-push w ↦
          ap (λ v. v.items) w.own-is ∙ w.in_ok-push.ensures.items ∙ ap (λ l. l ++ leaf c.loop-i.i (w.in-Some.rank, w.in-Some.index) ∷ []) c.loop-i.invariant
          ∙ sym (below_map-more turned c.loop-i.i (leaf c.loop-i.i (w.in-Some.rank, w.in-Some.index)) (ap (option_map (leaf c.loop-i.i)) (here ∙ w.in-Some.is)))
      | in_default w ↦
          ap (λ v. v.items) w.own-is ∙ c.loop-i.invariant ∙ sym (below_map-same turned c.loop-i.i (ap (option_map (leaf c.loop-i.i)) (here ∙ w.in_default.is)))
    ]
