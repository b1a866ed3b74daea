use Rattle.std.proofs.Common.{◌≡◌, ◌+◌, length, ap, ap₂, ◌∙◌}
use Rattle.std.proofs.lemmas.List.{length-map}
use Rattle.dist_state.specs.scatter_state.Parts.{number_of}
use Rattle.dist_state.specs.shared_state.Points.{shared_at}
use Rattle.orient_iface.specs.dist_assembly.Drawn.{low_count}
use Rattle.orient_iface.proofs.dist_assembly.Places.{moves-put}
use Rattle.orient_iface.proofs.dist_assembly.moves.rank_moves.Goals as goal

pub returns : goal.returns
returns c =
    let part = shared_at c.args.shared.now.parts c.args.rank in
    let held = c.args.held.now in
    let low : length c.cells.result.now + length c.vertices.result.now ≡ low_count part = ap₂ (λ x y. x + y) (ap length c.cells.ensures ∙ length-map part.cells number_of) (ap length c.vertices.ensures) in
    moves-put part held _ c.faces-2.result low c.faces-2.ensures.count c.in_ok-moves.moves.items c.push_places.new.moves.items c.push_faces.new.moves.items c.push_edges.new.moves.items
    c.in_ok-moves.ensures.items c.in_ok-push_places.ensures c.in_ok-push_faces.ensures c.in_ok-push_edges.ensures
