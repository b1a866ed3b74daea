use Rattle.std.proofs.Common.{[], ◌∷◌, ◌++◌, get_or, sym, ◌∙◌}
use Rattle.std.proofs.lemmas.List.{map_more}
use Rattle.std.proofs.lemmas.Option.{get_or_from_slice_get}
use Rattle.dist_seed.proofs.parts.coordinates_of.Goals as goal

pub loop-v-preserved : goal.loop-v-preserved
loop-v-preserved c =
    let at = c.args.mesh.now.at in
    let vertices = c.args.vertices.now in
    let there = sym (get_or_from_slice_get at (get_or vertices c.loop-v.v-index 0) _ [] c.at.ensures) in
    c.in_ok-push.ensures.items ∙ (λ i. c.loop-v.invariant i ++ there i ∷ []) ∙ sym (map_more (λ v. get_or at v []) vertices c.loop-v.v-index 0 c.loop-v-test.true)
