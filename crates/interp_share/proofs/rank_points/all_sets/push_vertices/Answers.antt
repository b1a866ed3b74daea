use Rattle.std.proofs.Common.{◌≡◌, [], ◌∷◌, ◌++◌, map, get_or, refl, sym, ap, ◌∙◌, arith}
use Rattle.plain_lists.specs.Lists.{sorted}
use Rattle.plain_lists.proofs.Each.{all_from}
use Rattle.plain_lists.proofs.Filters.{map_map_same}
use Rattle.mesh_defs.specs.Points.{point_of, vertex_sight}
use Rattle.mesh_laws.proofs.Turns.{sorted-one}
use Rattle.interp_share.proofs.rank_points.Pushing.{behind-next, behind-all}
use Rattle.interp_share.proofs.rank_points.all_sets.push_vertices.Goals as goal

pub loop-vertex-preserved : goal.loop-vertex-preserved
loop-vertex-preserved c =
    behind-next (λ v. sorted (v ∷ [])) c.vertices-vertex-items.result.now c.loop-vertex.vertex-index 0 c.args.sets.now c.loop-vertex.sets _ _ (omega arith) c.loop-vertex.invariant (sym (sorted-one (get_or c.vertices-vertex-items.result.now c.loop-vertex.vertex-index 0))) c.in_ok-push.ensures.ok

pub returns : goal.returns
returns c =
    let vs = c.args.part.now.vertices in
    behind-all (λ v. sorted (v ∷ [])) c.vertices-vertex-items.result.now c.loop-vertex.vertex-index c.args.sets.now c.loop-vertex.sets c.loop-vertex.invariant (omega arith)
    ∙ ap (λ l. c.args.sets.now ++ map (λ v. sorted (v ∷ [])) l) c.vertices-vertex-items.ensures
    ∙ ap (λ l. c.args.sets.now ++ l) (sym (map_map_same (λ s. (point_of s).vertices) vertex_sight (λ v. sorted (v ∷ [])) vs (all_from (λ v. sorted (v ∷ []) ≡ sorted (v ∷ [])) (λ v. refl) vs)))
