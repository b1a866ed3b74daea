use Rattle.std.proofs.Common.{◌≡◌, ℕ, List, Vec, Global, length, sym, ap, ◌∙◌}
use Rattle.std.proofs.lemmas.Result.{IfOk-weaker}
use Rattle.mesh_defs.specs.Mesh.{Mesh}
use Rattle.rank_defs.specs.Ranks.{assigned}
use Rattle.rank_defs.specs.Spread.{ScatterPart}
use Rattle.rank_chart_laws.specs.field_laws.Weights.{own_weights}
use Rattle.interp_share.specs.own_field_laws.Own.{IsPartOf, part_weights}
use Rattle.interp_share.proofs.own_field_laws.Points.{own-weights}
use Rattle.interp_share.specs.part_weights.Places.{AreWeights}
use Rattle.interp_share.proofs.part_weights.Adding.{weights-all}
use Rattle.interp_share.proofs.part_weights.weights.part_weights.Goals as goal

pub returns-clause-part : goal.returns-clause-part
returns-clause-part c =
    let part = c.args.part.now in
    IfOk-weaker c.sum_weights.result (λ (weights : Vec ℕ Global). AreWeights part (length part.cells) weights.items) (λ (weights : Vec ℕ Global). weights.items ≡ part_weights part)
    (λ weights h. weights-all part weights.items h) c.sum_weights.ensures

pub returns-clause-mesh : goal.returns-clause-mesh
returns-clause-mesh c =
    let part = c.args.part.now in
    IfOk-weaker c.sum_weights.result (λ (weights : Vec ℕ Global). AreWeights part (length part.cells) weights.items) (λ (weights : Vec ℕ Global). (m : Mesh) (a : List ℕ) (n r : ℕ) → IsPartOf part m a n r → weights.items ≡ own_weights m (assigned m a r))
    (λ weights h m a n r is. weights-all part weights.items h ∙ (ap (λ (p : ScatterPart). part_weights p) is.value ∙ sym (own-weights m is.mesh a r))) c.sum_weights.ensures
