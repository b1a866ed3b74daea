use Rattle.std.proofs.Common.{◌≡◌, false, rules, sym, ◌∙◌}
use Rattle.mesh_check.specs.element_points.Parts.{vertex_parts}
use Rattle.mesh_check.proofs.element_points.Setting.{set-absent}
use Rattle.mesh_check.proofs.element_points.Cells.{vertex_parts-dim}
use Rattle.mesh_check.proofs.element_points.parts.set_vertices.Goals as goal

pub returns-then-not-has_points : goal.returns-then-not-has_points
returns-then-not-has_points c =
    let off : c.args.has_points ≡ false = search rules in
    set-absent c.args.places.now.elements (vertex_parts c.args.nodes.now) 0 c.args.found.now (sym c.requires.points ∙ off) (vertex_parts-dim c.args.nodes.now)
