use Rattle.std.proofs.Common.{◌<◌, List, length, map, sym, ap, ◌∙◌, ℤ, arith}
use Rattle.std.specs.Prelude.{Some}
use Rattle.std.specs.List.{slice_get}
use Rattle.std.proofs.lemmas.List.{length-map, get_or-map}
use Rattle.std.proofs.lemmas.Option.{slice_get-get_or}
use Rattle.input_defs.specs.Content.{Node}
use Rattle.mesh_check.specs.mesh_vertices.Vertices.{vertex_view, vertex_views}
use Rattle.mesh_check.proofs.mesh_vertices.vertices.Vertices.at.Goals as goal

pub returns : goal.returns
returns c =
    let vertices = c.self.inside.vertices.items in
    let at : Node → List ℤ = λ node. node.at in
    let low : c.args.v < length vertices = omega (arith, c.requires, ap length c.self.view_is, length-map vertices vertex_view) in
    let long : c.args.v < length (map at (vertex_views vertices)) = omega (arith, low, length-map (vertex_views vertices) at, length-map vertices vertex_view) in
    let low_view : c.args.v < length (vertex_views vertices) = omega (arith, low, length-map vertices vertex_view) in
    ap (λ nodes. slice_get (map at nodes) c.args.v) (sym c.self.view_is)
    ∙ slice_get-get_or (map at (vertex_views vertices)) c.args.v c.index.result.now.at long
    ∙ ap Some (get_or-map at (vertex_views vertices) c.args.v (vertex_view c.index.result.now) c.index.result.now.at low_view ∙ ap at (get_or-map vertex_view vertices c.args.v c.index.result.now (vertex_view c.index.result.now) low) ∙ ap (λ vertex. vertex.at) (sym c.index.ensures))
