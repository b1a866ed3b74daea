use Rattle.std.proofs.Common.{◌==◌, ap, ◌∙◌}
use Rattle.std.specs.Prelude.{position}
use Rattle.input_defs.specs.Content.{Node}
use Rattle.mesh_check.specs.mesh_vertices.Vertices.{numbers_of}
use Rattle.mesh_check.proofs.mesh_vertices.Marking.{position-of_map, position-is}
use Rattle.mesh_check.proofs.mesh_vertices.vertices.Vertices.position.Goals as goal

pub returns-clause-position : goal.returns-clause-position
returns-clause-position c =
    c.place.ensures ∙ ap (position (λ m. m == c.args.number)) (c.self.invariant.0 ∙ ap numbers_of c.self.view_is) ∙ position-of_map (λ m. m == c.args.number) (λ (node : Node). node.number) c.args.self.now

pub returns-clause-vertex : goal.returns-clause-vertex
returns-clause-vertex c = position-is (λ (node : Node). node.number == c.args.number) c.args.self.now c.place.result
    (c.place.ensures ∙ ap (position (λ m. m == c.args.number)) (c.self.invariant.0 ∙ ap numbers_of c.self.view_is) ∙ position-of_map (λ m. m == c.args.number) (λ (node : Node). node.number) c.args.self.now)
