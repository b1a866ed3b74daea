use Rattle.std.proofs.Common.{[], ◌∷◌, ◌++◌, None, ap, ◌∙◌}
use Rattle.std.proofs.lemmas.List.{replicate_more}
use Rattle.orient_iface.proofs.moved_points.forest.no_roots.Goals as goal

pub loop-place-preserved : goal.loop-place-preserved
loop-place-preserved c = c.in_ok-push.ensures.items ∙ ap (λ l. l ++ None ∷ []) c.loop-place.invariant ∙ replicate_more c.loop-place._place None
