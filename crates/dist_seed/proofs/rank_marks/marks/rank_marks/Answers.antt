use Rattle.std.proofs.Common.{not, length, refl, ap, ◌∙◌, arith}
use Rattle.std.proofs.lemmas.List.Filters.{length-filter_both}
use Rattle.mesh_defs.specs.Mesh.{Mark}
use Rattle.mesh_defs.specs.Points.{marked_point}
use Rattle.mesh_defs.specs.RightMesh.{in_some}
use Rattle.dist_state.proofs.scatter_state.Given.{length-marks_of}
use Rattle.headline_laws.specs.seed_laws.Given.{marks_on_cells}
use Rattle.dist_seed.proofs.rank_marks.marks.rank_marks.Goals as goal

pub returns-clause-few : goal.returns-clause-few
unfolding marks_on_cells
returns-clause-few g c =
    let heads = c.finish.result.heads.items in
    let count = length-marks_of heads c.finish.result.vertices c.finish.ensures.full in
    let kept = ap length (c.finish.ensures.marks ∙ c.in_ok-kept.ensures) in
    let parts = length-filter_both (λ (k : Mark). in_some (marked_point k) c.args.own.now.cells) (λ k. not (in_some (marked_point k) c.args.own.now.cells)) (λ k. refl) c.args.mesh.now.marks in
    omega (arith, count, kept, parts, c.marks.ensures, c.if-marks-ge-TOO_MANY_MARKS.false)
