use Rattle.std.proofs.Common.{◌++◌, ◌∷◌, [], List, Option, length, arith, ap, ◌∙◌, ℕ}
use Rattle.std.proofs.lemmas.List.{length-replicate, replicate-append-replicate}
use Rattle.sf_algebra.proofs.Noting.{no_leaf}
use Rattle.sf_algebra.proofs.found.RootLeaves.none.Goals as goal

pub loop-preserved : goal.loop-preserved
loop-preserved c = c.in_ok-push.ensures.items ∙ (ap (λ (l : List (Option (ℕ × ℕ))). l ++ no_leaf ∷ []) c.loop.invariant ∙ replicate-append-replicate c.loop.counter 1 no_leaf)

pub invariant_of-result : goal.invariant_of-result
invariant_of-result c = let size = ap length c.loop.invariant ∙ length-replicate c.loop.counter no_leaf in omega (arith, size)
