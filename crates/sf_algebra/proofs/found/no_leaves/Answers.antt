use Rattle.std.proofs.Common.{◌≡◌, ◌<◌, ◌++◌, ◌∷◌, [], ℕ, List, Option, length, map, take, get_or, replicate, arith, sym, ap, ◌∙◌}
use Rattle.sf_ops.proofs.Words.{map-take-more}
use Rattle.sf_algebra.proofs.Fitting.{same_within}
use Rattle.sf_algebra.proofs.Noting.{no_leaf}
use Rattle.sf_algebra.proofs.found.no_leaves.Goals as goal

pub loop-rank-preserved : goal.loop-rank-preserved
loop-rank-preserved c =
    let roots : List ℕ = c.args.forest.now.roots in
    let own : List (Option (ℕ × ℕ)) = c.in_ok-none.field-0 in
    let within : c.loop-rank.rank < length roots = omega (arith, c.ranks-rank-end.ensures.ranks) in
    let none : own ≡ replicate (get_or roots c.loop-rank.rank 0) no_leaf = c.in_ok-none.ensures ∙ ap (λ n. replicate n no_leaf) c.roots.ensures in
    let more = map-take-more (λ n. replicate n no_leaf) roots c.loop-rank.rank (get_or roots c.loop-rank.rank 0) within (same_within roots c.loop-rank.rank _ 0 within) in
    c.in_ok-push.ensures.items ∙ (ap (λ (found : List (List (Option (ℕ × ℕ)))). found ++ own ∷ []) c.loop-rank.invariant ∙ (ap (λ (o : List (Option (ℕ × ℕ))). map (λ (n : ℕ). replicate n no_leaf) (take c.loop-rank.rank roots) ++ o ∷ []) none ∙ sym more))
