use Rattle.std.proofs.Common.{◌≡◌, false, rules, sym, ◌∙◌}
use Rattle.mesh_check.specs.element_points.Parts.{face_parts}
use Rattle.mesh_check.proofs.element_points.Setting.{set-absent}
use Rattle.mesh_check.proofs.element_points.Cells.{face_parts-dim}
use Rattle.mesh_check.proofs.element_points.parts.set_faces.Goals as goal

pub returns-then-not-has_faces : goal.returns-then-not-has_faces
returns-then-not-has_faces c =
    let off : c.args.has_faces ≡ false = search rules in
    set-absent c.args.places.now.elements (face_parts c.args.poly c.args.nodes.now) 2 c.args.found.now (sym c.requires.faces ∙ off) (face_parts-dim c.args.poly c.args.nodes.now)
