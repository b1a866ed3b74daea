use Rattle.std.proofs.Common.{ap, sym, ◌∙◌}
use Rattle.std.specs.List.{filter}
use Rattle.std.proofs.lemmas.List.{nil_from_length}
use Rattle.mesh_defs.specs.Mesh.{Mark}
use Rattle.mesh_defs.specs.Points.{marked_point}
use Rattle.mesh_defs.specs.RightMesh.{in_some}
use Rattle.headline_laws.specs.seed_laws.Given.{marks_on_cells}
use Rattle.dist_seed.proofs.rank_marks.marks.kept_marks.Goals as goal

pub returns-then-marks-eq0 : goal.returns-then-marks-eq0
unfolding marks_on_cells
returns-then-marks-eq0 g c = c.in_ok-kept.ensures ∙ sym (ap (filter (λ (k : Mark). in_some (marked_point k) c.args.own.now.cells)) (nil_from_length c.args.mesh.now.marks (sym c.marks.ensures ∙ c.if-marks-eq0.true)))
