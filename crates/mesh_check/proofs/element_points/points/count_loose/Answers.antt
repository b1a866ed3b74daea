use Rattle.std.proofs.Common.{◌≡◌, ◌<◌, ◌+◌, ℕ, List, [], not, length, take, sym, ap, ◌∙◌, arith}
use Rattle.std.specs.Prelude.{filter, if◌then◌else◌}
use Rattle.std.proofs.lemmas.List.{length-map}
use Rattle.std.proofs.Math.Seq.{take-length}
use Rattle.input_defs.specs.Content.{Element, Content}
use Rattle.input_defs.specs.Meshes.{kept, kept_after, loose_elements}
use Rattle.mesh_check.proofs.element_points.Answering.{is_on_point, loose-next}
use Rattle.mesh_check.proofs.element_points.points.count_loose.Goals as goal
use Rattle.mesh_check.proofs.element_points.points.count_loose.Goals.{then-is_loose, else-is_loose}

pub loop-i-preserved : goal.loop-i-preserved
loop-i-preserved c =
    let low : c.loop-i.i < length c.args.places.now.elements = omega (arith, ap length c.requires, length-map c.args.places.now.elements (is_on_point c.args.places.now)) in
    let content : Content = c.args.places.now in
    let so_far : ℕ = length (filter (λ e. not (is_on_point content e)) (kept_after [] (take c.loop-i.i content.elements))) in
    let next = loose-next content c.args.on.now c.is_loose.result c.loop-i.i low c.requires c.is_loose.ensures in
    elim c.if-is_loose.branch [
      | then-is_loose w ↦ record {
        loose = w.loose-is ∙ ap (λ n. n + 1) c.loop-i.invariant.loose ∙ sym (next ∙ ap (λ b. so_far + (if b then 1 else 0)) w.if-is_loose.true);
        few = omega (arith, w.loose-is, c.loop-i.invariant.few);
      }
      | else-is_loose w ↦ record {
        loose = w.loose-is ∙ c.loop-i.invariant.loose ∙ sym (next ∙ ap (λ b. so_far + (if b then 1 else 0)) w.if-is_loose.false ∙ none so_far);
        few = omega (arith, w.loose-is, c.loop-i.invariant.few);
      }
    ]
  where
    none : (n : ℕ) → n + 0 ≡ n
    none n = omega arith

pub returns : goal.returns
unfolding loose_elements kept
returns c =
    let content : Content = c.args.places.now in
    let all : c.loop-i.i ≡ length content.elements = omega (arith, ap length c.requires, length-map content.elements (is_on_point content)) in
    c.loop-i.invariant.loose ∙ ap (λ (es : List Element). length (filter (λ e. not (is_on_point content e)) (kept_after [] es))) (ap (λ n. take n content.elements) all ∙ take-length content.elements)
